-- Reading sub-identifiers one after the other, as a loop does.
use Rattle.std.proofs.Common.{◌≡◌, ℕ, zero, suc, ◌+◌, ◌-◌, ◌*◌, ◌^◌, ◌<◌, ◌≤◌, List, [], ◌∷◌, ◌++◌, length, get_or, ltb, eqb, cond, true, false, Result, Ok, Err, refl, sym, ap, subst, ◌∙◌, append_assoc, arith, inl, inr}
use Rattle.std.specs.List.{AllByRecursion}
use Rattle.std.specs.Str.{IsAscii}
use Rattle.std.proofs.lemmas.Bool.{lt-ltb, le-ltb, ltb-true, ltb-false, eqb-false, ne_eqb}
use Rattle.std.proofs.Math.Nat.{pow-suc, pow-le-pow_right}
use Rattle.std.proofs.lemmas.Nat.{mul-le}
use Rattle.std.proofs.lemmas.List.{append-nil, length_push, length-append, get_or_append_left}
use Rattle.std.proofs.lemmas.List.Elements.{All-from_recursion, recursion_from_All}
use Rattle.mon_ber.specs.declared.fault.BerFault.{BerFault}
use Rattle.mon_ber.specs.declared.fault.BerFault.TheVariants.{OutOfMemory, Truncated, BadTag, BadLength, OutOfRange, BadOid}
use Rattle.mon_oid.specs.Oid.{IsOid}
use Rattle.mon_ber.specs.Numbers.{IsBase128, IsSubidentifier, AreSubidentifiers, IsName}
use Rattle.mon_ber.proofs.Steps.{bind_ok, guard, wanted, chosen, ok_is, pair_is}
use Rattle.mon_oid.specs.Steps.{◌>>=◌}
use Rattle.mon_ber.specs.Reading.{Fails, digits_at, subidentifier_at, subidentifiers_of, first_two, name_of}
use Rattle.mon_ber.specs.Many.{with_front}

-- an identifier, by its first two sub-identifiers and the others
pub record Parts (a b : ℕ) (others : List ℕ) : Type 0 where
  pub first : a ≤ 2
  pub second : a < 2 → b < 40
  pub fits : b < 2 ^ 32
  pub others_fit : AllByRecursion (λ n. n < 2 ^ 32) others
  pub few : length others ≤ 126

pub joined : (a b : ℕ) (others : List ℕ) → Parts a b others → IsOid (a ∷ b ∷ others)
joined a b others p = record {
  long = omega arith;
  short = omega (arith, p.few);
  rooted = record { first = p.first; second = λ h. omega (arith, p.second h) };
  small = All-from_recursion (λ n. n < 2 ^ 32) (a ∷ b ∷ others) (omega (arith, p.first), (p.fits, p.others_fit));
}

pub apart : (a b : ℕ) (others : List ℕ) → IsOid (a ∷ b ∷ others) → Parts a b others
apart a b others is =
    let small = recursion_from_All (λ n. n < 2 ^ 32) (a ∷ b ∷ others) is.small in
    let short : length (a ∷ b ∷ others) ≤ 128 = is.short in
    record { first = is.rooted.first; second = λ h. omega (arith, is.rooted.second h); fits = small.1.0; others_fit = small.1.1; few = omega arith }

-- what follows one sub-identifier
abbrev then_others : ℕ → (ℕ × List ℕ) → Result (List ℕ) BerFault
then_others room n = cond (ltb n.0 (2 ^ 32)) (subidentifiers_of room n.1 >>= λ ns. Ok (n.0 ∷ ns)) (Err BadOid)

step : (room : ℕ) (bytes : List ℕ) → 0 < length bytes → subidentifiers_of (suc room) bytes ≡ (subidentifier_at bytes >>= then_others room)
unfolding subidentifiers_of
step room [] h = absurd (omega arith)
step room (b ∷ bs) h = refl

regroup : (front : List ℕ) (n : ℕ) (read : Result (List ℕ) BerFault) → with_front front (read >>= λ ns. Ok (n ∷ ns)) ≡ with_front (front ++ n ∷ []) read
regroup front n (Ok ns) = ap (λ (xs : List ℕ). Ok xs) (sym (append_assoc front (n ∷ []) ns))
regroup front n (Err f) = refl

module _ (front bytes : List ℕ) (total : Result (List ℕ) BerFault) (so_far : with_front front (subidentifiers_of (128 - length front) bytes) ≡ total) where
  pub goes_on : (longer : List ℕ) (n : ℕ) (after : List ℕ) → longer ≡ front ++ n ∷ [] → length front < 128 → 0 < length bytes → subidentifier_at bytes ≡ Ok (n, after) → n < 2 ^ 32
      → with_front longer (subidentifiers_of (128 - length longer) after) ≡ total
  goes_on longer n after is lt some h fits =
      let room : 128 - length front ≡ suc (128 - length longer) = omega (arith, length_push front n, ap length is) in
      let test : ltb n (2 ^ 32) ≡ true = lt-ltb n (2 ^ 32) fits in
      let one : with_front front (subidentifiers_of (128 - length front) bytes) ≡ with_front longer (subidentifiers_of (128 - length longer) after) = rw (room, step (128 - length longer) bytes some, h, test) (regroup front n (subidentifiers_of (128 - length longer) after) ∙ ap (λ (xs : List ℕ). with_front xs (subidentifiers_of (128 - length longer) after)) (sym is)) in
      sym one ∙ so_far

  pub fails : (e : BerFault) → length front < 128 → 0 < length bytes → Fails e (subidentifier_at bytes) → Fails e total
  fails e lt some h =
      let room : 128 - length front ≡ suc (127 - length front) = omega arith in
      let one : with_front front (subidentifier_at bytes >>= then_others (127 - length front)) ≡ total = rw (room, step (127 - length front) bytes some) at so_far in
      elim e as (λ v. Fails v (subidentifier_at bytes) → Fails v total) [
        | OutOfMemory ↦ λ h. tt
        | Truncated ↦ λ h. sym one ∙ rw h refl
        | BadTag ↦ λ h. sym one ∙ rw h refl
        | BadLength ↦ λ h. sym one ∙ rw h refl
        | OutOfRange ↦ λ h. sym one ∙ rw h refl
        | BadOid ↦ λ h. sym one ∙ rw h refl
      ] h

  pub too_large : (n : ℕ) (after : List ℕ) → length front < 128 → 0 < length bytes → subidentifier_at bytes ≡ Ok (n, after) → 2 ^ 32 ≤ n → total ≡ Err BadOid
  too_large n after lt some h large =
      let room : 128 - length front ≡ suc (127 - length front) = omega arith in
      let one : with_front front (subidentifier_at bytes >>= then_others (127 - length front)) ≡ total = rw (room, step (127 - length front) bytes some) at so_far in
      let test : ltb n (2 ^ 32) ≡ false = le-ltb n (2 ^ 32) large in
      sym one ∙ rw (h, test) refl

  pub full : length front ≡ 128 → 0 < length bytes → total ≡ Err BadOid
  unfolding subidentifiers_of
  full is some =
      let room : 128 - length front ≡ 0 = omega arith in
      let none : (bs : List ℕ) → 0 < length bs → subidentifiers_of 0 bs ≡ Err BadOid = λ bs. elim bs as (λ v. 0 < length v → subidentifiers_of 0 v ≡ Err BadOid) [ [] ↦ λ h. absurd (omega arith) | b ∷ rest ↦ λ h. refl ] in
      sym so_far ∙ rw (room, none bytes some) refl

  pub done : length bytes ≡ 0 → total ≡ Ok front
  unfolding subidentifiers_of
  done is =
      let none : (room : ℕ) (bs : List ℕ) → length bs ≡ 0 → subidentifiers_of room bs ≡ Ok [] = λ room bs. elim bs as (λ v. length v ≡ 0 → subidentifiers_of room v ≡ Ok []) [ [] ↦ λ h. refl | b ∷ rest ↦ λ h. absurd (omega arith) ] in
      sym so_far ∙ rw (none (128 - length front) bytes is) (ap (λ (xs : List ℕ). Ok xs) (append-nil front))

-- what is read behind some has these too
pub behind_longer : (front : List ℕ) (read : Result (List ℕ) BerFault) (all : List ℕ) → with_front front read ≡ Ok all → length front ≤ length all
behind_longer front (Ok xs) all is = omega (arith, length-append front xs, ap (λ (v : List ℕ). length v) (ok_is {E = BerFault} (front ++ xs) all is))
behind_longer front (Err e) all is = absurd cc

-- the first two sub-identifiers are as they must be
first_two_fit : (n a b : ℕ) → first_two n ≡ Ok (a, b) → (a ≤ 2) × (a < 2 → b < 40) × (b < 2 ^ 32)
first_two_fit n a b h = grind arith

pub first_two_valid : (n a b : ℕ) → first_two n ≡ Ok (a, b) → IsOid (a ∷ b ∷ [])
first_two_valid n a b h =
    let f = first_two_fit n a b h in
    joined a b [] (record { first = f.0; second = f.1; fits = f.2; others_fit = tt; few = omega arith })

-- ---- what is read was spelled, and what is spelled is read

-- these digits, behind high, make n
pub record Digits (high : ℕ) (bytes : List ℕ) (n : ℕ) (rest : List ℕ) : Type 0 where
  pub text : List ℕ
  pub low : ℕ
  pub spelled : IsBase128 text low
  pub sum : n ≡ high * 128 ^ length text + low
  pub whole : bytes ≡ text ++ rest

longer : (high b : ℕ) (bs : List ℕ) (n : ℕ) (rest : List ℕ) → 128 ≤ b → Digits (128 * high + (b - 128)) bs n rest → Digits high (b ∷ bs) n rest
longer high b bs n rest top d =
    elim (d.text) as (λ v. IsBase128 v d.low → n ≡ (128 * high + (b - 128)) * 128 ^ length v + d.low → bs ≡ v ++ rest → Digits high (b ∷ bs) n rest) [
      | [] ↦ λ s e w. absurd s
      | x ∷ xs ↦ λ s e w. record {
        text = b ∷ x ∷ xs;
        low = (b - 128) * 128 ^ length (x ∷ xs) + d.low;
        spelled = (top, d.low, refl, s);
        sum = rw pow-suc (grind arith);
        whole = ap (λ (y : List ℕ). b ∷ y) w;
      }
    ] d.spelled d.sum d.whole

pub digits_takes : (high : ℕ) (bytes : List ℕ) (n : ℕ) (rest : List ℕ) → digits_at high bytes ≡ Ok (n, rest) → Digits high bytes n rest
digits_takes high [] n rest e = absurd cc
digits_takes high (b ∷ bs) n rest e =
    let last : Result (ℕ × List ℕ) BerFault = cond (ltb (128 * high + b) (2 ^ 32 + 80)) (Ok (128 * high + b, bs)) (Err BadOid) in
    let more : Result (ℕ × List ℕ) BerFault = cond (ltb (128 * high + (b - 128)) (2 ^ 32 + 80)) (digits_at (128 * high + (b - 128)) bs) (Err BadOid) in
    elim (chosen (ltb b 128) last more (Ok (n, rest)) e) [
      | inl p ↦ (
          let g = wanted (ltb (128 * high + b) (2 ^ 32 + 80)) BadOid (Ok (128 * high + b, bs)) (n, rest) p.1 in
          let is = pair_is (128 * high + b) bs n rest g.1 in
          record { text = b ∷ []; low = b; spelled = (ltb-true b 128 p.0, refl); sum = omega (arith, is.0); whole = ap (λ (y : List ℕ). b ∷ y) is.1 })
      | inr p ↦ (
          let g = wanted (ltb (128 * high + (b - 128)) (2 ^ 32 + 80)) BadOid (digits_at (128 * high + (b - 128)) bs) (n, rest) p.1 in
          longer high b bs n rest (ltb-false b 128 p.0) (digits_takes (128 * high + (b - 128)) bs n rest g.1))
    ]

at_least : (a k m : ℕ) → a * 128 ^ k + m < 2 ^ 32 + 80 → a < 2 ^ 32 + 80
at_least a k m h =
    let from_zero : 0 ≤ k = omega arith in
    let some : 0 < 128 = omega arith in
    let one : 128 ^ 0 ≤ 128 ^ k = pow-le-pow_right some from_zero in
    let grows : a * 1 ≤ a * 128 ^ k = mul-le a 1 a (128 ^ k) (omega arith) one in
    omega arith

next_digit : (high d p low : ℕ) → (128 * high + d) * p + low ≡ high * (p * 128) + (d * p + low)
next_digit high d p low = grind arith

pub digits_again : (high : ℕ) (text : List ℕ) (low : ℕ) (rest : List ℕ) → IsBase128 text low → high * 128 ^ length text + low < 2 ^ 32 + 80 → digits_at high (text ++ rest) ≡ Ok (high * 128 ^ length text + low, rest)
digits_again high [] low rest s lt = absurd s
digits_again high (b ∷ []) low rest s lt =
    let same : 128 * high + b ≡ high * 128 ^ 1 + low = omega (arith, s.1) in
    rw (lt-ltb b 128 s.0, lt-ltb (128 * high + b) (2 ^ 32 + 80) (omega (arith, same, lt)), same) refl
digits_again high (b ∷ c ∷ bs) low rest s lt =
    let high' = 128 * high + (b - 128) in
    let low' = s.1 in
    let p = 128 ^ length (c ∷ bs) in
    let wider : 128 ^ length (b ∷ c ∷ bs) ≡ p * 128 = pow-suc 128 (length (c ∷ bs)) in
    let same : high' * p + low' ≡ high * 128 ^ length (b ∷ c ∷ bs) + low = next_digit high (b - 128) p low' ∙ ap (λ (x : ℕ). high * x + ((b - 128) * p + low')) (sym wider) ∙ ap (λ (x : ℕ). high * 128 ^ length (b ∷ c ∷ bs) + x) (sym s.2) in
    let room : high' * p + low' < 2 ^ 32 + 80 = omega (arith, same, lt) in
    let small : high' < 2 ^ 32 + 80 = at_least high' (length (c ∷ bs)) low' room in
    rw (le-ltb b 128 s.0, lt-ltb high' (2 ^ 32 + 80) small) (digits_again high' (c ∷ bs) low' rest s.3 room ∙ ap (λ (m : ℕ). Ok (m, rest)) same)

-- a spelled number has an octet, and a first one
not_empty : (text : List ℕ) (n : ℕ) → IsBase128 text n → 0 < length text
not_empty [] n s = absurd s
not_empty (b ∷ bs) n s = omega arith

pub subidentifier_takes : (bytes : List ℕ) (n : ℕ) (rest : List ℕ) → subidentifier_at bytes ≡ Ok (n, rest) → (text : List ℕ) × IsSubidentifier text n × (bytes ≡ text ++ rest)
unfolding subidentifier_at
subidentifier_takes bytes n rest e =
    let g = guard (eqb (get_or bytes 0 0) 128) BadOid (digits_at 0 bytes) (n, rest) e in
    let d = digits_takes 0 bytes n rest g.1 in
    let is : d.low ≡ n = omega (arith, d.sum) in
    let begins : get_or d.text 0 0 ≡ 128 → ⊥ = λ h. eqb-false (get_or bytes 0 0) 128 g.0 (ap (λ (x : List ℕ). get_or x 0 0) d.whole ∙ get_or_append_left d.text rest 0 0 (not_empty d.text d.low d.spelled) ∙ h) in
    (d.text, record { value = subst (λ (m : ℕ). IsBase128 d.text m) is d.spelled; begins = begins }, d.whole)

pub subidentifier_again : (text : List ℕ) (n : ℕ) (rest : List ℕ) → IsSubidentifier text n → n < 2 ^ 32 + 80 → subidentifier_at (text ++ rest) ≡ Ok (n, rest)
unfolding subidentifier_at
subidentifier_again text n rest is lt =
    let first : get_or (text ++ rest) 0 0 ≡ get_or text 0 0 = get_or_append_left text rest 0 0 (not_empty text n is.value) in
    let test : eqb (get_or (text ++ rest) 0 0) 128 ≡ false = ne_eqb (get_or (text ++ rest) 0 0) 128 (λ h. is.begins (sym first ∙ h)) in
    let sum : 0 * 128 ^ length text + n ≡ n = omega arith in
    rw test (digits_again 0 text n rest is.value (omega (arith, sum)) ∙ ap (λ (m : ℕ). Ok (m, rest)) sum)

-- a list of them, all of the bytes
pub record Many (room : ℕ) (bytes ns : List ℕ) : Type 0 where
  pub spelled : AreSubidentifiers bytes ns
  pub few : length ns ≤ room
  pub fit : AllByRecursion (λ n. n < 2 ^ 32) ns

pub subidentifiers_take : (room : ℕ) (bytes ns : List ℕ) → subidentifiers_of room bytes ≡ Ok ns → Many room bytes ns
unfolding subidentifiers_of
subidentifiers_take room [] ns e = subst (λ (v : List ℕ). Many room [] v) (ok_is [] ns e) (record { spelled = refl; few = omega arith; fit = tt })
subidentifiers_take zero (b ∷ bs) ns e = absurd cc
subidentifiers_take (suc room) (b ∷ bs) ns e =
    let x = bind_ok (subidentifier_at (b ∷ bs)) (then_others room) ns e in
    let n = x.0 in
    let g = wanted (ltb n.0 (2 ^ 32)) BadOid (subidentifiers_of room n.1 >>= λ others. Ok (n.0 ∷ others)) ns x.2 in
    let y = bind_ok (subidentifiers_of room n.1) (λ others. Ok (n.0 ∷ others)) ns g.1 in
    let t = subidentifier_takes (b ∷ bs) n.0 n.1 x.1 in
    let others = subidentifiers_take room n.1 y.0 y.1 in
    subst (λ (v : List ℕ). Many (suc room) (b ∷ bs) v) (ok_is (n.0 ∷ y.0) ns y.2) (record { spelled = (t.0, n.1, t.2, t.1, others.spelled); few = omega (arith, others.few); fit = (ltb-true n.0 (2 ^ 32) g.0, others.fit) })

pub subidentifiers_again : (room : ℕ) (bytes ns : List ℕ) → Many room bytes ns → subidentifiers_of room bytes ≡ Ok ns
unfolding subidentifiers_of
subidentifiers_again room bytes [] is = ap (subidentifiers_of room) is.spelled
subidentifiers_again zero bytes (n ∷ ns) is = absurd (omega (arith, is.few))
subidentifiers_again (suc room) bytes (n ∷ ns) is =
    let s = is.spelled in
    let f = is.fit in
    let some : 0 < length (s.0 ++ s.1) = omega (arith, length-append s.0 s.1, not_empty s.0 n s.3.value) in
    let first : subidentifier_at (s.0 ++ s.1) ≡ Ok (n, s.1) = subidentifier_again s.0 n s.1 s.3 (omega (arith, f.0)) in
    let others : subidentifiers_of room s.1 ≡ Ok ns = subidentifiers_again room s.1 ns (record { spelled = s.4; few = omega (arith, is.few); fit = f.1 }) in
    ap (subidentifiers_of (suc room)) s.2 ∙ step room (s.0 ++ s.1) some ∙ rw (first, lt-ltb n (2 ^ 32) f.0, others) refl

-- octets below 128 are sub-identifiers of one octet each
pub octets_are_numbers : (room : ℕ) (bs : List ℕ) → length bs ≤ room → IsAscii bs → subidentifiers_of room bs ≡ Ok bs
unfolding subidentifiers_of
octets_are_numbers room [] few small = refl
octets_are_numbers zero (b ∷ bs) few small = absurd (omega arith)
octets_are_numbers (suc room) (b ∷ bs) few small =
    let low : b < 128 = small 0 in
    let one : IsSubidentifier (b ∷ []) b = record { value = (low, refl); begins = λ h. absurd (omega (arith, low, h)) } in
    let first : subidentifier_at (b ∷ bs) ≡ Ok (b, bs) = subidentifier_again (b ∷ []) b bs one (omega (arith, low)) in
    let others : subidentifiers_of room bs ≡ Ok bs = octets_are_numbers room bs (omega arith) (λ i. small (suc i)) in
    step room (b ∷ bs) (omega arith) ∙ rw (first, lt-ltb b (2 ^ 32) (omega (arith, low)), others) refl

-- the two numbers in the first one
first_two_is : (n a b : ℕ) → first_two n ≡ Ok (a, b) → n ≡ 40 * a + b
first_two_is n a b h = grind arith

first_two_again : (a b : ℕ) → a ≤ 2 → (a < 2 → b < 40) → b < 2 ^ 32 → first_two (40 * a + b) ≡ Ok (a, b)
first_two_again a b small second fits = grind arith

pub name_takes : (contents parts : List ℕ) → name_of contents ≡ Ok parts → IsName contents parts
unfolding name_of
name_takes contents parts e =
    let x = bind_ok (subidentifier_at contents) (λ n. first_two n.0 >>= λ two. subidentifiers_of 126 n.1 >>= λ others. Ok (two.0 ∷ two.1 ∷ others)) parts e in
    let n = x.0 in
    let y = bind_ok (first_two n.0) (λ two. subidentifiers_of 126 n.1 >>= λ others. Ok (two.0 ∷ two.1 ∷ others)) parts x.2 in
    let two = y.0 in
    let z = bind_ok (subidentifiers_of 126 n.1) (λ others. Ok (two.0 ∷ two.1 ∷ others)) parts y.2 in
    let t = subidentifier_takes contents n.0 n.1 x.1 in
    let many = subidentifiers_take 126 n.1 z.0 z.1 in
    let begin = first_two_fit n.0 two.0 two.1 y.1 in
    let is = first_two_is n.0 two.0 two.1 y.1 in
    subst (λ (v : List ℕ). IsName contents v) (ok_is (two.0 ∷ two.1 ∷ z.0) parts z.2) (record {
      valid = joined two.0 two.1 z.0 (record { first = begin.0; second = begin.1; fits = begin.2; others_fit = many.fit; few = many.few });
      spelled = (t.0, n.1, t.2, subst (λ (m : ℕ). IsSubidentifier t.0 m) is t.1, many.spelled);
    })

pub name_again : (contents parts : List ℕ) → IsName contents parts → name_of contents ≡ Ok parts
unfolding name_of
name_again contents [] is = absurd (omega (arith, is.valid.long))
name_again contents (a ∷ []) is = absurd (omega (arith, is.valid.long))
name_again contents (a ∷ b ∷ others) is =
    let p = apart a b others is.valid in
    let s = is.spelled in
    let first : subidentifier_at (s.0 ++ s.1) ≡ Ok (40 * a + b, s.1) = subidentifier_again s.0 (40 * a + b) s.1 s.3 (omega (arith, p.first, p.fits)) in
    let two : first_two (40 * a + b) ≡ Ok (a, b) = first_two_again a b p.first p.second p.fits in
    let more : subidentifiers_of 126 s.1 ≡ Ok others = subidentifiers_again 126 s.1 others (record { spelled = s.4; few = p.few; fit = p.others_fit }) in
    ap name_of s.2 ∙ rw (first, two, more) refl
