-- The parts of an entry that name an instance: what is read was laid out so, and what is laid out
-- so is read.
use Rattle.std.proofs.Common.{◌≡◌, ℕ, zero, suc, ◌-◌, ◌<◌, ◌≤◌, ◌^◌, Bool, true, false, List, [], ◌∷◌, ◌++◌, length, Option, Some, None, Result, Ok, Err, refl, sym, ap, subst, ◌∙◌, inl, inr, arith}
use Rattle.std.specs.Prelude.{nat_lt, ◌||◌, ◌&&◌, if◌then◌else◌, slice_index}
use Rattle.std.specs.List.{AllByRecursion}
use Rattle.std.specs.Int.{w16, w32, from_be_bytes, to_be_bytes}
use Rattle.std.proofs.lemmas.Bool.{cases_Bool, and_cases, and_left, ltb-true, ltb-false, le-ltb}
use Rattle.std.proofs.lemmas.List.Elements.{All-from_recursion, recursion_from_All}
use Rattle.std.proofs.lemmas.Nat.{be_bytes_2, from_be_bytes-to_be_bytes_2}
use Rattle.mon_oid.specs.Oid.{IsOid, IsRooted}
use Rattle.mon_oid.specs.Steps.{◌>>=◌}
use Rattle.mon_ber.proofs.Promised.{IsBytes, IsBytes-after, bind_ok, pair_is}
use Rattle.mon_board.specs.Instance.{IsEngine}
use Rattle.mon_fields.specs.declared.fault.LayoutFault.{LayoutFault}
use Rattle.mon_fields.specs.declared.fault.LayoutFault.TheVariants as layout
use Rattle.mon_fields.specs.Layout.{numbers_octets}
use Rattle.mon_fields.specs.Reading.{Fails as FailsAsField, field_at, u32_at, one_by_one, with_front}
use Rattle.mon_fields.proofs.Promised.{Chain, bytes_front, one_by_one_takes, one_by_one_again, goes_on, stops, guard, field_takes, field_again, u32_takes, u32_again}
use Rattle.mon_saved.specs.declared.fault.ImageFault.TheVariants.{BadImage}
use Rattle.mon_saved.specs.Reading.{lifted, octet_within}
use Rattle.mon_saved.proofs.Promised.{lifted_ok, within_again, within_takes}
use Rattle.mon_own_watch.specs.Reading.{engine_at, is_unrooted, many_at, name_at, next_number, numbers_at, within_many}

or_false : (a b : Bool) → (a || b) ≡ false → (a ≡ false) × (b ≡ false)
or_false true b e = absurd cc
or_false false b e = (refl, e)

pub engine_takes : (octets engine rest : List ℕ) → engine_at octets ≡ Ok (engine, rest) → (octets ≡ length engine ∷ engine ++ rest) × IsEngine engine
unfolding engine_at
engine_takes octets engine rest e =
    let made : List ℕ × List ℕ = (engine, rest) in
    let s = bind_ok (octet_within 5 32 BadImage octets) (λ len. lifted (field_at len.0 len.1)) made e in
    let c = field_takes s.0.0 s.0.1 engine rest (lifted_ok (field_at s.0.0 s.0.1) made s.2) in
    let t = within_takes 5 32 BadImage octets s.0.0 s.0.1 s.1 in
    (t.0 ∙ (λ i. sym c.1 i ∷ c.0 i), (omega (arith, c.1, t.1), omega (arith, c.1, t.2)))

pub engine_again : (engine rest : List ℕ) → IsEngine engine → engine_at (length engine ∷ engine ++ rest) ≡ Ok (engine, rest)
unfolding engine_at
engine_again engine rest is = rw (within_again 5 32 BadImage (length engine) (engine ++ rest) is.0 is.1, field_again engine rest) refl

-- ---- numbers
abbrev pub Fits : Option ℕ → ℕ → Type 0
Fits last n = n < 2 ^ 32

numbers_takes : (n : ℕ) (octets parts rest : List ℕ) → IsBytes octets → numbers_at n octets ≡ Ok (parts, rest) → (octets ≡ numbers_octets parts ++ rest) × (length parts ≡ n) × AllByRecursion (λ k. k < 2 ^ 32) parts
unfolding numbers_at
numbers_takes n octets parts rest b e =
    let t = one_by_one_takes next_number (to_be_bytes w32) Fits (λ last os k r h f. u32_takes os k r h f) None n octets parts rest b e in
    (t.0, t.1, each None parts t.2)
  where
    each : (last : Option ℕ) (ks : List ℕ) → Chain Fits last ks → AllByRecursion (λ k. k < 2 ^ 32) ks
    each last [] c = tt
    each last (k ∷ ks) c = (c.0, each (Some k) ks c.1)

numbers_again : (parts rest : List ℕ) → AllByRecursion (λ k. k < 2 ^ 32) parts → numbers_at (length parts) (numbers_octets parts ++ rest) ≡ Ok (parts, rest)
unfolding numbers_at
numbers_again parts rest all = one_by_one_again next_number (to_be_bytes w32) Fits (λ last k r h. u32_again k r h) None parts rest (chain None parts all)
  where
    chain : (last : Option ℕ) (ks : List ℕ) → AllByRecursion (λ k. k < 2 ^ 32) ks → Chain Fits last ks
    chain last [] a = tt
    chain last (k ∷ ks) a = (a.0, chain (Some k) ks a.1)

-- ---- identifiers
rooted_when : (parts : List ℕ) → is_unrooted parts ≡ false → IsRooted parts
unfolding is_unrooted
rooted_when parts e =
    let o = or_false (nat_lt 2 (slice_index parts 0)) (nat_lt (slice_index parts 0) 2 && nat_lt 39 (slice_index parts 1)) e in
    record {
      first = ltb-false 2 (slice_index parts 0) o.0;
      second = λ lt. elim (and_cases (nat_lt (slice_index parts 0) 2) (nat_lt 39 (slice_index parts 1)) o.1) [
        | inl above ↦ absurd (let le = ltb-false (slice_index parts 0) 2 above in omega (arith, le, lt))
        | inr low ↦ ltb-false 39 (slice_index parts 1) low
      ];
    }

not_bad : (parts : List ℕ) → IsRooted parts → is_unrooted parts ≡ false
unfolding is_unrooted
not_bad parts is =
    let first = le-ltb 2 (slice_index parts 0) is.first in
    let second : (nat_lt (slice_index parts 0) 2 && nat_lt 39 (slice_index parts 1)) ≡ false = elim (cases_Bool (nat_lt (slice_index parts 0) 2)) [
      | inl low ↦ rw (low, le-ltb 39 (slice_index parts 1) (is.second (ltb-true (slice_index parts 0) 2 low))) refl
      | inr high ↦ and_left (nat_lt (slice_index parts 0) 2) (nat_lt 39 (slice_index parts 1)) high
    ] in
    rw (first, second) refl

-- numbers that were read after their count
pub numbers_read : (octets : List ℕ) (count : ℕ) (rest parts after : List ℕ) → IsBytes octets → octet_within 2 128 BadImage octets ≡ Ok (count, rest) → numbers_at count rest ≡ Ok (parts, after)
    → (octets ≡ length parts ∷ numbers_octets parts ++ after) × (2 ≤ length parts) × (is_unrooted parts ≡ false → IsOid parts)
numbers_read octets count rest parts after b e f =
    let t = within_takes 2 128 BadImage octets count rest e in
    let one : List ℕ = count ∷ [] in
    let u = numbers_takes count rest parts after (IsBytes-after octets one rest b t.0) f in
    let both : count ∷ rest ≡ length parts ∷ numbers_octets parts ++ after = λ i. sym u.1 i ∷ u.0 i in (
      t.0 ∙ both,
      omega (arith, u.1, t.1),
      λ fine. record {
        long = omega (arith, u.1, t.1);
        short = omega (arith, u.1, t.2);
        rooted = rooted_when parts fine;
        small = All-from_recursion (λ k. k < 2 ^ 32) parts u.2;
      },
    )

pub name_takes : (octets name rest : List ℕ) → IsBytes octets → name_at octets ≡ Ok (name, rest) → (octets ≡ length name ∷ numbers_octets name ++ rest) × IsOid name
unfolding name_at
name_takes octets name rest b e =
    let made : List ℕ × List ℕ = (name, rest) in
    let s = bind_ok (octet_within 2 128 BadImage octets) (λ count. lifted (numbers_at count.0 count.1) >>= λ parts. if is_unrooted parts.0 then Err BadImage else Ok parts) made e in
    let n = bind_ok (lifted (numbers_at s.0.0 s.0.1)) (λ parts. if is_unrooted parts.0 then Err BadImage else Ok parts) made s.2 in
    let g = guard (is_unrooted n.0.0) BadImage (Ok n.0) made n.2 in
    let p = pair_is n.0.0 n.0.1 name rest g.1 in
    let t = numbers_read octets s.0.0 s.0.1 n.0.0 n.0.1 b s.1 (lifted_ok (numbers_at s.0.0 s.0.1) n.0 n.1) in
    let same : length n.0.0 ∷ numbers_octets n.0.0 ++ n.0.1 ≡ length name ∷ numbers_octets name ++ rest = λ i. length (p.0 i) ∷ numbers_octets (p.0 i) ++ p.1 i in
    (t.0 ∙ same, subst (λ (v : List ℕ). IsOid v) p.0 (t.2 g.0))

pub name_again : (name rest : List ℕ) → IsOid name → name_at (length name ∷ numbers_octets name ++ rest) ≡ Ok (name, rest)
unfolding name_at
name_again name rest is =
    rw (
      within_again 2 128 BadImage (length name) (numbers_octets name ++ rest) is.long is.short,
      numbers_again name rest (recursion_from_All (λ k. k < 2 ^ 32) name is.small),
      not_bad name is.rooted,
    ) refl

-- ---- how many instances there are
pub many_takes : (octets : List ℕ) (many : ℕ) (rest : List ℕ) → IsBytes octets → many_at octets ≡ Ok (many, rest) → (octets ≡ to_be_bytes w16 many ++ rest) × (1 ≤ many) × (many ≤ 256)
unfolding many_at
many_takes octets many rest b e =
    let made : ℕ × List ℕ = (many, rest) in
    let f = bind_ok (lifted (field_at 2 octets)) (λ field. within_many (from_be_bytes w16 field.0, field.1)) made e in
    let number = from_be_bytes w16 f.0.0 in
    let g = guard (nat_lt number 1 || nat_lt 256 number) BadImage (Ok (number, f.0.1)) made f.2 in
    let o = or_false (nat_lt number 1) (nat_lt 256 number) g.0 in
    let p = pair_is number f.0.1 many rest g.1 in
    let c = field_takes 2 octets f.0.0 f.0.1 (lifted_ok (field_at 2 octets) f.0 f.1) in
    let bytes = bytes_front f.0.0 f.0.1 (subst (λ (v : List ℕ). IsBytes v) c.0 b) in (
      c.0 ∙ (λ i. sym (be_bytes_2 f.0.0 many c.1 bytes (sym p.0)) i ++ p.1 i),
      subst (λ (k : ℕ). 1 ≤ k) p.0 (ltb-false number 1 o.0),
      subst (λ (k : ℕ). k ≤ 256) p.0 (ltb-false 256 number o.1),
    )

pub many_again : (many : ℕ) (rest : List ℕ) → 1 ≤ many → many ≤ 256 → many_at (to_be_bytes w16 many ++ rest) ≡ Ok (many, rest)
unfolding many_at
many_again many rest some few =
    rw (field_again (to_be_bytes w16 many) rest, from_be_bytes-to_be_bytes_2 many (omega (arith, few)), le-ltb many 1 some, le-ltb 256 many few) refl

-- ---- one number more
-- what is before does not matter
unlinked : (a b : Option ℕ) (n : ℕ) (octets : List ℕ) → one_by_one next_number a n octets ≡ one_by_one next_number b n octets
unfolding one_by_one
unlinked a b zero octets = refl
unlinked a b (suc n) octets = refl

module _ (front : List ℕ) (n : ℕ) (octets : List ℕ) (total : Result (List ℕ × List ℕ) LayoutFault) (so_far : with_front front (one_by_one next_number None n octets) ≡ total) (some : 0 < n) where
  pub fails : (e : LayoutFault) → FailsAsField e (u32_at octets) → FailsAsField e total
  fails layout.OutOfMemory h = tt
  fails layout.Truncated h = stops next_number front None n octets total so_far layout.Truncated some h
  fails layout.BadSample h = stops next_number front None n octets total so_far layout.BadSample some h
  fails layout.NotRising h = stops next_number front None n octets total so_far layout.NotRising some h

  pub one_more : (k : ℕ) (rest : List ℕ) → u32_at octets ≡ Ok (k, rest) → with_front (front ++ k ∷ []) (one_by_one next_number None (n - 1) rest) ≡ total
  one_more k rest h = ap (with_front (front ++ k ∷ [])) (unlinked None (Some k) (n - 1) rest) ∙ goes_on next_number front None n octets total so_far k rest some h
