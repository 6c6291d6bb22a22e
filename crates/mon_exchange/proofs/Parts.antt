-- The parts of a claim: what is read was laid out so, and what is laid out so is read.
use Rattle.std.proofs.Common.{◌≡◌, ℕ, zero, suc, ◌-◌, ◌<◌, ◌≤◌, ◌^◌, Bool, true, false, List, [], ◌∷◌, ◌++◌, length, Option, Some, None, Result, Ok, Err, refl, sym, ap, subst, ◌∙◌, inl, inr, arith}
use Rattle.std.specs.Prelude.{nat_lt, ◌==◌, ◌||◌, ◌&&◌, if◌then◌else◌, slice_index}
use Rattle.std.specs.List.{AllByRecursion}
use Rattle.std.specs.Int.{w32, to_be_bytes}
use Rattle.std.proofs.lemmas.Bool.{cases_Bool, and_cases, and_left, eqb-true, eqb-false, eq-eqb, ne_eqb, ltb-true, ltb-false, le-ltb}
use Rattle.std.proofs.lemmas.List.Elements.{All-from_recursion, recursion_from_All}
use Rattle.mon_oid.specs.Oid.{IsOid, IsRooted}
use Rattle.mon_oid.specs.Steps.{◌>>=◌}
use Rattle.mon_ber.proofs.Promised.{IsBytes, IsBytes-after, bind_ok, wanted, chosen, ok_is, pair_is}
use Rattle.mon_fields.specs.declared.fault.LayoutFault.{LayoutFault}
use Rattle.mon_fields.specs.declared.fault.LayoutFault.TheVariants as layout
use Rattle.mon_fields.specs.Layout.{numbers_octets, samples_octets, AreSamples}
use Rattle.mon_fields.specs.Reading.{Fails as FailsAsField, octet_at, field_at, u32_at, one_by_one, with_front, samples_at}
use Rattle.mon_fields.proofs.Promised.{Chain, one_by_one_takes, one_by_one_again, goes_on, stops, guard, octet_takes, octet_again, field_takes, field_again, u32_takes, u32_again, samples_takes}
use Rattle.mon_exchange.specs.declared.claim.ClaimKind.{ClaimKind}
use Rattle.mon_exchange.specs.declared.claim.ClaimKind.TheVariants.{Offer, Confirm}
use Rattle.mon_exchange.specs.declared.fault.ExchangeFault.{ExchangeFault}
use Rattle.mon_exchange.specs.declared.fault.ExchangeFault.TheVariants.{NotAClaim, BadVersion, BadName}
use Rattle.mon_board.specs.Instance.{IsEngine}
use Rattle.mon_exchange.specs.Claim.{kind_octet, counted_samples}
use Rattle.mon_exchange.specs.Reading.{lifted, octet_is, claim_kind_of, claim_kind_at, positive_at, within_at, engine_at, next_number, sub_identifiers_at, is_unrooted, oid_at, claimed_at, all_read, version_at}

pub lifted_ok : {A : Type 0} (r : Result A LayoutFault) (x : A) → lifted r ≡ Ok x → r ≡ Ok x
lifted_ok (Ok y) x e = ap (λ z. Ok z) (ok_is y x e)
lifted_ok (Err d) x e = absurd cc

or_false : (a b : Bool) → (a || b) ≡ false → (a ≡ false) × (b ≡ false)
or_false true b e = absurd cc
or_false false b e = (refl, e)

pub octet_is_takes : (w : ℕ) (f : ExchangeFault) (octets rest : List ℕ) → octet_is w f octets ≡ Ok rest → octets ≡ w ∷ rest
unfolding octet_is
octet_is_takes w f octets rest e =
    let b = bind_ok (lifted (octet_at octets)) (λ b. if b.0 == w then Ok b.1 else Err f) rest e in
    let t = wanted (b.0.0 == w) f (Ok b.0.1) rest b.2 in
    octet_takes octets b.0.0 b.0.1 (lifted_ok (octet_at octets) b.0 b.1) ∙ (λ i. eqb-true b.0.0 w t.0 i ∷ ok_is b.0.1 rest t.1 i)

pub octet_is_again : (w : ℕ) (f : ExchangeFault) (rest : List ℕ) → octet_is w f (w ∷ rest) ≡ Ok rest
unfolding octet_is
octet_is_again w f rest = rw (octet_again w rest, eq-eqb w w refl) refl

pub version_takes : (octets rest : List ℕ) → version_at octets ≡ Ok rest → octets ≡ 77 ∷ 88 ∷ 1 ∷ rest
unfolding version_at
version_takes octets rest e =
    let m = bind_ok (octet_is 77 NotAClaim octets) (λ m. octet_is 88 NotAClaim m >>= λ x. octet_is 1 BadVersion x) rest e in
    let x = bind_ok (octet_is 88 NotAClaim m.0) (λ x. octet_is 1 BadVersion x) rest m.2 in
    octet_is_takes 77 NotAClaim octets m.0 m.1 ∙ (λ i. 77 ∷ octet_is_takes 88 NotAClaim m.0 x.0 x.1 i) ∙ (λ i. 77 ∷ 88 ∷ octet_is_takes 1 BadVersion x.0 rest x.2 i)

pub version_again : (rest : List ℕ) → version_at (77 ∷ 88 ∷ 1 ∷ rest) ≡ Ok rest
unfolding version_at
version_again rest = rw (octet_is_again 77 NotAClaim (88 ∷ 1 ∷ rest), octet_is_again 88 NotAClaim (1 ∷ rest)) (octet_is_again 1 BadVersion rest)

kind_is : (b : ℕ) (kind : ClaimKind) → claim_kind_of b ≡ Ok kind → b ≡ kind_octet kind
kind_is b kind e = elim (chosen (b == 1) (Ok Offer) (if b == 2 then Ok Confirm else Err NotAClaim) (Ok kind) e) [
  | inl one ↦ eqb-true b 1 one.0 ∙ ap kind_octet (ok_is Offer kind one.1)
  | inr other ↦ (let w = wanted (b == 2) NotAClaim (Ok Confirm) kind other.1 in eqb-true b 2 w.0 ∙ ap kind_octet (ok_is Confirm kind w.1))
]

pub kind_takes : (octets : List ℕ) (kind : ClaimKind) (rest : List ℕ) → claim_kind_at octets ≡ Ok (kind, rest) → octets ≡ kind_octet kind ∷ rest
unfolding claim_kind_at
kind_takes octets kind rest e =
    let made : ClaimKind × List ℕ = (kind, rest) in
    let b = bind_ok (lifted (octet_at octets)) (λ b. claim_kind_of b.0 >>= λ k. Ok (k, b.1)) made e in
    let k = bind_ok (claim_kind_of b.0.0) (λ k. Ok (k, b.0.1)) made b.2 in
    let p = pair_is k.0 b.0.1 kind rest k.2 in
    octet_takes octets b.0.0 b.0.1 (lifted_ok (octet_at octets) b.0 b.1) ∙ (λ i. (kind_is b.0.0 k.0 k.1 ∙ ap kind_octet p.0) i ∷ p.1 i)

pub kind_again : (kind : ClaimKind) (rest : List ℕ) → claim_kind_at (kind_octet kind ∷ rest) ≡ Ok (kind, rest)
unfolding claim_kind_at
kind_again Offer rest = rw (octet_again 1 rest) refl
kind_again Confirm rest = rw (octet_again 2 rest) refl

positive : (k : ℕ) → (k ≡ 0 → ⊥) → 1 ≤ k
positive zero h = absurd (h refl)
positive (suc k) h = omega arith

pub positive_takes : (octets : List ℕ) (n : ℕ) (rest : List ℕ) → IsBytes octets → positive_at octets ≡ Ok (n, rest) → (octets ≡ to_be_bytes w32 n ++ rest) × (1 ≤ n) × (n < 2 ^ 32)
unfolding positive_at
positive_takes octets n rest b e =
    let made : ℕ × List ℕ = (n, rest) in
    let x = bind_ok (lifted (u32_at octets)) (λ m. if m.0 == 0 then Err NotAClaim else Ok m) made e in
    let g = guard (x.0.0 == 0) NotAClaim (Ok x.0) made x.2 in
    let p = pair_is x.0.0 x.0.1 n rest g.1 in
    let t = u32_takes octets x.0.0 x.0.1 b (lifted_ok (u32_at octets) x.0 x.1) in
    (t.0 ∙ (λ i. to_be_bytes w32 (p.0 i) ++ p.1 i), subst (λ (k : ℕ). 1 ≤ k) p.0 (positive x.0.0 (eqb-false x.0.0 0 g.0)), subst (λ (k : ℕ). k < 2 ^ 32) p.0 t.1)

pub positive_again : (n : ℕ) (rest : List ℕ) → 1 ≤ n → n < 2 ^ 32 → positive_at (to_be_bytes w32 n ++ rest) ≡ Ok (n, rest)
unfolding positive_at
positive_again n rest some fits = rw (u32_again n rest fits, ne_eqb n 0 (λ e. omega (arith, e, some))) refl

pub within_takes : (least most : ℕ) (f : ExchangeFault) (octets : List ℕ) (n : ℕ) (rest : List ℕ) → within_at least most f octets ≡ Ok (n, rest) → (octets ≡ n ∷ rest) × (least ≤ n) × (n ≤ most)
unfolding within_at
within_takes least most f octets n rest e =
    let made : ℕ × List ℕ = (n, rest) in
    let b = bind_ok (lifted (octet_at octets)) (λ b. if nat_lt b.0 least || nat_lt most b.0 then Err f else Ok b) made e in
    let g = guard (nat_lt b.0.0 least || nat_lt most b.0.0) f (Ok b.0) made b.2 in
    let o = or_false (nat_lt b.0.0 least) (nat_lt most b.0.0) g.0 in
    let p = pair_is b.0.0 b.0.1 n rest g.1 in (
      octet_takes octets b.0.0 b.0.1 (lifted_ok (octet_at octets) b.0 b.1) ∙ (λ i. p.0 i ∷ p.1 i),
      subst (λ (k : ℕ). least ≤ k) p.0 (ltb-false b.0.0 least o.0),
      subst (λ (k : ℕ). k ≤ most) p.0 (ltb-false most b.0.0 o.1),
    )

pub within_again : (least most : ℕ) (f : ExchangeFault) (n : ℕ) (rest : List ℕ) → least ≤ n → n ≤ most → within_at least most f (n ∷ rest) ≡ Ok (n, rest)
unfolding within_at
within_again least most f n rest low high = rw (octet_again n rest, le-ltb n least low, le-ltb most n high) refl

pub engine_takes : (octets engine rest : List ℕ) → engine_at octets ≡ Ok (engine, rest) → (octets ≡ length engine ∷ engine ++ rest) × IsEngine engine
unfolding engine_at
engine_takes octets engine rest e =
    let made : List ℕ × List ℕ = (engine, rest) in
    let s = bind_ok (within_at 5 32 BadName octets) (λ len. lifted (field_at len.0 len.1)) made e in
    let c = field_takes s.0.0 s.0.1 engine rest (lifted_ok (field_at s.0.0 s.0.1) made s.2) in
    let t = within_takes 5 32 BadName octets s.0.0 s.0.1 s.1 in
    (t.0 ∙ (λ i. sym c.1 i ∷ c.0 i), (omega (arith, c.1, t.1), omega (arith, c.1, t.2)))

pub engine_again : (engine rest : List ℕ) → IsEngine engine → engine_at (length engine ∷ engine ++ rest) ≡ Ok (engine, rest)
unfolding engine_at
engine_again engine rest is = rw (within_again 5 32 BadName (length engine) (engine ++ rest) is.0 is.1, field_again engine rest) refl

-- ---- numbers
abbrev pub Fits : Option ℕ → ℕ → Type 0
Fits last n = n < 2 ^ 32

numbers_takes : (n : ℕ) (octets parts rest : List ℕ) → IsBytes octets → sub_identifiers_at n octets ≡ Ok (parts, rest) → (octets ≡ numbers_octets parts ++ rest) × (length parts ≡ n) × AllByRecursion (λ k. k < 2 ^ 32) parts
unfolding sub_identifiers_at
numbers_takes n octets parts rest b e =
    let t = one_by_one_takes next_number (to_be_bytes w32) Fits (λ last os k r h f. u32_takes os k r h f) None n octets parts rest b e in
    (t.0, t.1, each None parts t.2)
  where
    each : (last : Option ℕ) (ks : List ℕ) → Chain Fits last ks → AllByRecursion (λ k. k < 2 ^ 32) ks
    each last [] c = tt
    each last (k ∷ ks) c = (c.0, each (Some k) ks c.1)

numbers_again : (parts rest : List ℕ) → AllByRecursion (λ k. k < 2 ^ 32) parts → sub_identifiers_at (length parts) (numbers_octets parts ++ rest) ≡ Ok (parts, rest)
unfolding sub_identifiers_at
numbers_again parts rest all = one_by_one_again next_number (to_be_bytes w32) Fits (λ last k r h. u32_again k r h) None parts rest (chain None parts all)
  where
    chain : (last : Option ℕ) (ks : List ℕ) → AllByRecursion (λ k. k < 2 ^ 32) ks → Chain Fits last ks
    chain last [] a = tt
    chain last (k ∷ ks) a = (a.0, chain (Some k) ks a.1)

-- what is before does not matter
pub unlinked : (a b : Option ℕ) (n : ℕ) (octets : List ℕ) → one_by_one next_number a n octets ≡ one_by_one next_number b n octets
unfolding one_by_one
unlinked a b zero octets = refl
unlinked a b (suc n) octets = refl

-- ---- identifiers
rooted_when : (parts : List ℕ) → is_unrooted parts ≡ false → IsRooted parts
unfolding is_unrooted
rooted_when parts e =
    let o = or_false (nat_lt 2 (slice_index parts 0)) (nat_lt (slice_index parts 0) 2 && nat_lt 39 (slice_index parts 1)) e in
    record {
      first = ltb-false 2 (slice_index parts 0) o.0;
      second = λ lt. elim (and_cases (nat_lt (slice_index parts 0) 2) (nat_lt 39 (slice_index parts 1)) o.1) [
        | inl above ↦ absurd (let le = ltb-false (slice_index parts 0) 2 above in omega (arith, le, lt))
        | inr low ↦ ltb-false 39 (slice_index parts 1) low
      ];
    }

not_bad : (parts : List ℕ) → IsRooted parts → is_unrooted parts ≡ false
unfolding is_unrooted
not_bad parts is =
    let first = le-ltb 2 (slice_index parts 0) is.first in
    let second : (nat_lt (slice_index parts 0) 2 && nat_lt 39 (slice_index parts 1)) ≡ false = elim (cases_Bool (nat_lt (slice_index parts 0) 2)) [
      | inl low ↦ rw (low, le-ltb 39 (slice_index parts 1) (is.second (ltb-true (slice_index parts 0) 2 low))) refl
      | inr high ↦ and_left (nat_lt (slice_index parts 0) 2) (nat_lt 39 (slice_index parts 1)) high
    ] in
    rw (first, second) refl

-- numbers that were read after their count
pub numbers_read : (octets : List ℕ) (count : ℕ) (rest parts after : List ℕ) → IsBytes octets → within_at 2 128 BadName octets ≡ Ok (count, rest) → sub_identifiers_at count rest ≡ Ok (parts, after)
    → (octets ≡ length parts ∷ numbers_octets parts ++ after) × (2 ≤ length parts) × (is_unrooted parts ≡ false → IsOid parts)
numbers_read octets count rest parts after b e f =
    let t = within_takes 2 128 BadName octets count rest e in
    let one : List ℕ = count ∷ [] in
    let u = numbers_takes count rest parts after (IsBytes-after octets one rest b t.0) f in
    let both : count ∷ rest ≡ length parts ∷ numbers_octets parts ++ after = λ i. sym u.1 i ∷ u.0 i in (
      t.0 ∙ both,
      omega (arith, u.1, t.1),
      λ fine. record {
        long = omega (arith, u.1, t.1);
        short = omega (arith, u.1, t.2);
        rooted = rooted_when parts fine;
        small = All-from_recursion (λ k. k < 2 ^ 32) parts u.2;
      },
    )

pub oid_takes : (octets name rest : List ℕ) → IsBytes octets → oid_at octets ≡ Ok (name, rest) → (octets ≡ length name ∷ numbers_octets name ++ rest) × IsOid name
unfolding oid_at
oid_takes octets name rest b e =
    let made : List ℕ × List ℕ = (name, rest) in
    let s = bind_ok (within_at 2 128 BadName octets) (λ count. lifted (sub_identifiers_at count.0 count.1) >>= λ parts. if is_unrooted parts.0 then Err BadName else Ok parts) made e in
    let n = bind_ok (lifted (sub_identifiers_at s.0.0 s.0.1)) (λ parts. if is_unrooted parts.0 then Err BadName else Ok parts) made s.2 in
    let g = guard (is_unrooted n.0.0) BadName (Ok n.0) made n.2 in
    let p = pair_is n.0.0 n.0.1 name rest g.1 in
    let t = numbers_read octets s.0.0 s.0.1 n.0.0 n.0.1 b s.1 (lifted_ok (sub_identifiers_at s.0.0 s.0.1) n.0 n.1) in
    let same : length n.0.0 ∷ numbers_octets n.0.0 ++ n.0.1 ≡ length name ∷ numbers_octets name ++ rest = λ i. length (p.0 i) ∷ numbers_octets (p.0 i) ++ p.1 i in
    (t.0 ∙ same, subst (λ (v : List ℕ). IsOid v) p.0 (t.2 g.0))

pub oid_again : (name rest : List ℕ) → IsOid name → oid_at (length name ∷ numbers_octets name ++ rest) ≡ Ok (name, rest)
unfolding oid_at
oid_again name rest is =
    rw (
      within_again 2 128 BadName (length name) (numbers_octets name ++ rest) is.long is.short,
      numbers_again name rest (recursion_from_All (λ k. k < 2 ^ 32) name is.small),
      not_bad name is.rooted,
    ) refl

-- ---- samples
pub claimed_takes : (octets samples rest : List ℕ) → IsBytes octets → claimed_at octets ≡ Ok (samples, rest) → (octets ≡ counted_samples samples ++ rest) × (length samples ≤ 40) × AreSamples samples
unfolding claimed_at counted_samples
claimed_takes octets samples rest b e =
    let made : List ℕ × List ℕ = (samples, rest) in
    let s = bind_ok (within_at 0 40 NotAClaim octets) (λ count. lifted (samples_at count.0 count.1)) made e in
    let t = within_takes 0 40 NotAClaim octets s.0.0 s.0.1 s.1 in
    let one : List ℕ = s.0.0 ∷ [] in
    let u = samples_takes s.0.0 s.0.1 samples rest (IsBytes-after octets one s.0.1 b t.0) (lifted_ok (samples_at s.0.0 s.0.1) made s.2) in
    (t.0 ∙ (λ i. sym u.1 i ∷ u.0 i), omega (arith, u.1, t.2), u.2)

-- how samples are read again
abbrev pub ReadsAgain : Type 0
ReadsAgain = (samples rest : List ℕ) → AreSamples samples → samples_at (length samples) (samples_octets samples ++ rest) ≡ Ok (samples, rest)

pub claimed_again : ReadsAgain → (samples rest : List ℕ) → length samples ≤ 40 → AreSamples samples → claimed_at (counted_samples samples ++ rest) ≡ Ok (samples, rest)
unfolding claimed_at counted_samples
claimed_again law samples rest few are = rw (within_again 0 40 NotAClaim (length samples) (samples_octets samples ++ rest) (omega arith) few, law samples rest are) refl

nothing : (octets : List ℕ) → length octets ≡ 0 → octets ≡ []
nothing [] e = refl
nothing (b ∷ octets) e = absurd (omega (arith, e))

pub all_read_takes : {A : Type 0} (octets : List ℕ) (x y : A) → all_read octets x ≡ Ok y → (octets ≡ []) × (x ≡ y)
unfolding all_read
all_read_takes octets x y e =
    let w = wanted (length octets == 0) NotAClaim (Ok x) y e in
    (nothing octets (eqb-true (length octets) 0 w.0), ok_is x y w.1)

-- ---- a loop over numbers
module _ (front : List ℕ) (n : ℕ) (octets : List ℕ) (total : Result (List ℕ × List ℕ) LayoutFault) (so_far : with_front front (one_by_one next_number None n octets) ≡ total) (some : 0 < n) where
  pub fails : (e : LayoutFault) → FailsAsField e (u32_at octets) → FailsAsField e total
  fails layout.OutOfMemory h = tt
  fails layout.Truncated h = stops next_number front None n octets total so_far layout.Truncated some h
  fails layout.BadSample h = stops next_number front None n octets total so_far layout.BadSample some h
  fails layout.NotRising h = stops next_number front None n octets total so_far layout.NotRising some h

  pub one_more : (k : ℕ) (rest : List ℕ) → u32_at octets ≡ Ok (k, rest) → with_front (front ++ k ∷ []) (one_by_one next_number None (n - 1) rest) ≡ total
  one_more k rest h = ap (with_front (front ++ k ∷ [])) (unlinked None (Some k) (n - 1) rest) ∙ goes_on next_number front None n octets total so_far k rest some h
