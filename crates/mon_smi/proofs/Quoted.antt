-- Strings: the longest one behind an opening quote.
use Rattle.std.proofs.Common.{◌≡◌, ℕ, suc, ◌+◌, ◌-◌, ◌<◌, ◌≤◌, Bool, true, false, cond, List, [], ◌∷◌, ◌++◌, length, get_or, take, drop, Option, Some, None, sym, refl, ap, ◌∙◌, arith, append_assoc}
use Rattle.std.specs.Prelude.{IfSome, ◌==◌}
use Rattle.std.specs.List.{flat_map}
use Rattle.std.proofs.lemmas.Bool.{eqb-true}
use Rattle.std.proofs.lemmas.List.{take_rest}
use Rattle.mon_smi.specs.Tokens.{doubled}
use Rattle.mon_smi.specs.Scan.{closes_at}
use Rattle.mon_smi.proofs.Runs.{by_test}

-- this many bytes are passed, the last string ended there, and the rest goes on from there
abbrev pub joined : ℕ → Option ℕ → Option ℕ → Option ℕ
joined len end None = end
joined len end (Some n) = Some (len + n)

-- reading has come so far
pub record IsSoFar (text : List ℕ) (len : ℕ) (end : Option ℕ) (rest : List ℕ) : Type 0 where
  pub within : len + length rest ≡ length text
  pub ended : IfSome end (λ n. n ≤ len)
  pub so_far : joined len end (closes_at rest) ≡ closes_at text

no_quote : (b : ℕ) → (b ≡ 34 → ⊥) → (b == 34) ≡ false
no_quote b other = go (b == 34) refl
  where
    go : (t : Bool) → (b == 34) ≡ t → t ≡ false
    go true is = absurd (other (eqb-true b 34 is))
    go false is = refl

more_len : (len n : ℕ) → len + 1 + n ≡ len + suc n
more_len len n = omega arith

-- another byte is passed
over_byte : (len : ℕ) (end : Option ℕ) (b : ℕ) (bs : List ℕ) → (b ≡ 34 → ⊥) → joined (len + 1) end (closes_at bs) ≡ joined len end (closes_at (b ∷ bs))
over_byte len end b [] other = rw (no_quote b other) refl
over_byte len end b (c ∷ cs) other = rw (no_quote b other) (go (closes_at (c ∷ cs)))
  where
    go : (r : Option ℕ) → joined (len + 1) end r ≡ joined len end (elim r [ Some n ↦ Some (suc n) | None ↦ None ])
    go None = refl
    go (Some n) = ap (λ k. Some k) (more_len len n)

over_pair : (len : ℕ) (end : Option ℕ) (bs : List ℕ) → joined (len + 2) (Some (len + 1)) (closes_at bs) ≡ joined len end (closes_at (34 ∷ 34 ∷ bs))
over_pair len end bs = go (closes_at bs)
  where
    go : (r : Option ℕ) → joined (len + 2) (Some (len + 1)) r ≡ joined len end (Some (elim r [ Some n ↦ suc (suc n) | None ↦ 1 ]))
    go None = refl
    go (Some n) = let more : len + 2 + n ≡ len + suc (suc n) = omega arith in ap (λ k. Some k) more

if_some_more : (end : Option ℕ) (m n : ℕ) → m ≤ n → IfSome end (λ k. k ≤ m) → IfSome end (λ k. k ≤ n)
if_some_more None m n le is = tt
if_some_more (Some k) m n le is = let below : k ≤ m = is in omega arith

pub next_byte : (text : List ℕ) (len : ℕ) (end : Option ℕ) (rest after : List ℕ) → 0 < length rest → after ≡ drop 1 rest → (get_or rest 0 0 ≡ 34 → ⊥) → IsSoFar text len end rest → IsSoFar text (len + 1) end after
next_byte text len end [] after some is other so = absurd (omega arith)
next_byte text len end (b ∷ bs) after some is other so =
    let lens : len + length (b ∷ bs) ≡ length text = so.within in
    let same : length after ≡ length bs = ap (λ (l : List ℕ). length l) is in
    record {
      within = omega arith;
      ended = if_some_more end len (len + 1) (omega arith) so.ended;
      so_far = ap (λ (l : List ℕ). joined (len + 1) end (closes_at l)) is ∙ over_byte len end b bs other ∙ so.so_far;
    }

pub next_pair : (text : List ℕ) (len : ℕ) (end : Option ℕ) (rest after : List ℕ) → 2 ≤ length rest → after ≡ drop 2 rest → get_or rest 0 0 ≡ 34 → get_or rest 1 0 ≡ 34 → IsSoFar text len end rest → IsSoFar text (len + 2) (Some (len + 1)) after
next_pair text len end [] after some is first second so = absurd (omega arith)
next_pair text len end (b ∷ []) after some is first second so = absurd (omega arith)
next_pair text len end (b ∷ c ∷ bs) after some is first second so =
    let lens : len + length (b ∷ c ∷ bs) ≡ length text = so.within in
    let same : length after ≡ length bs = ap (λ (l : List ℕ). length l) is in
    let quotes : b ∷ c ∷ bs ≡ 34 ∷ 34 ∷ bs = ap (λ (x : ℕ). x ∷ c ∷ bs) first ∙ ap (λ (x : ℕ). 34 ∷ x ∷ bs) second in
    record {
      within = omega arith;
      ended = omega arith;
      so_far = ap (λ (l : List ℕ). joined (len + 2) (Some (len + 1)) (closes_at l)) is ∙ over_pair len end bs ∙ ap (λ (l : List ℕ). joined len end (closes_at l)) (sym quotes) ∙ so.so_far;
    }

-- what a slice pattern leaves behind the first byte
pub behind_one : (rest : List ℕ) → take (length rest - 1) (drop 1 rest) ≡ drop 1 rest
behind_one rest = take_rest rest 1

pub behind_two : (rest : List ℕ) → take (length (take (length rest - 1) (drop 1 rest)) - 1) (drop 1 (take (length rest - 1) (drop 1 rest))) ≡ drop 2 rest
behind_two rest = ap (λ (l : List ℕ). take (length l - 1) (drop 1 l)) (take_rest rest 1) ∙ take_rest (drop 1 rest) 1 ∙ two rest
  where
    two : (l : List ℕ) → drop 1 (drop 1 l) ≡ drop 2 l
    two [] = refl
    two (x ∷ []) = refl
    two (x ∷ y ∷ l) = refl

-- ---- what is closed is a string

abbrev pub Closes : List ℕ → ℕ → Type 0
Closes text n = (inner : List ℕ) × (take n text ≡ flat_map doubled inner ++ 34 ∷ []) × (n ≤ length text)

pub closes_takes : (text : List ℕ) → IfSome (closes_at text) (Closes text)
closes_takes [] = tt
closes_takes (b ∷ []) = go (b == 34) refl
  where
    go : (t : Bool) → (b == 34) ≡ t → IfSome (cond t (Some 1) None) (Closes (b ∷ []))
    go true is = ([], ap (λ (x : ℕ). x ∷ []) (eqb-true b 34 is), omega arith)
    go false is = tt
closes_takes (b ∷ c ∷ bs) =
    by_test (λ r. IfSome r (Closes (b ∷ c ∷ bs))) (b == 34) (cond (c == 34) (Some (elim (closes_at bs) [ Some n ↦ suc (suc n) | None ↦ 1 ])) (Some 1)) (elim (closes_at (c ∷ bs)) [ Some n ↦ Some (suc n) | None ↦ None ])
    (λ e. by_test (λ r. IfSome r (Closes (b ∷ c ∷ bs))) (c == 34) (Some (elim (closes_at bs) [ Some n ↦ suc (suc n) | None ↦ 1 ])) (Some 1)
    (λ f. pair (closes_at bs) (eqb-true b 34 e) (eqb-true c 34 f) (closes_takes bs))
    (λ f. one (eqb-true b 34 e)))
    (λ e. other (closes_at (c ∷ bs)) e (closes_takes (c ∷ bs)))
  where
    one : b ≡ 34 → Closes (b ∷ c ∷ bs) 1
    one is = ([], ap (λ (x : ℕ). x ∷ []) is, omega arith)

    pair : (r : Option ℕ) → b ≡ 34 → c ≡ 34 → IfSome r (Closes bs) → Closes (b ∷ c ∷ bs) (elim r [ Some n ↦ suc (suc n) | None ↦ 1 ])
    pair None first second more = one first
    pair (Some n) first second more =
        let below : n ≤ length bs = more.2 in
        (34 ∷ more.0, ap (λ (x : ℕ). x ∷ c ∷ take n bs) first ∙ ap (λ (x : ℕ). 34 ∷ x ∷ take n bs) second ∙ ap (λ (l : List ℕ). 34 ∷ 34 ∷ l) more.1, omega arith)

    other : (r : Option ℕ) → (b == 34) ≡ false → IfSome r (Closes (c ∷ bs)) → IfSome (elim r [ Some n ↦ Some (suc n) | None ↦ None ]) (Closes (b ∷ c ∷ bs))
    other None single_one more = tt
    other (Some n) single_one more =
        let below : n ≤ length (c ∷ bs) = more.2 in
        (b ∷ more.0, ap (λ (l : List ℕ). b ∷ l) more.1 ∙ ap (λ (l : List ℕ). l ++ (flat_map doubled more.0 ++ 34 ∷ [])) (sym (single single_one)) ∙ sym (append_assoc (doubled b) (flat_map doubled more.0) (34 ∷ [])), omega arith)
      where
        single : (b == 34) ≡ false → doubled b ≡ b ∷ []
        single e = rw e refl

-- a string is closed no sooner than at its end
abbrev pub ClosesBy : ℕ → Option ℕ → Type 0
ClosesBy m r = (n : ℕ) × (r ≡ Some n) × (m ≤ n)

pub closes_again : (inner rest : List ℕ) → ClosesBy (length (flat_map doubled inner ++ 34 ∷ [])) (closes_at ((flat_map doubled inner ++ 34 ∷ []) ++ rest))
closes_again [] [] = (1, refl, omega arith)
closes_again [] (c ∷ cs) = go (c == 34) (closes_at cs)
  where
    go : (t : Bool) (r : Option ℕ) → ClosesBy 1 (cond t (Some (elim r [ Some n ↦ suc (suc n) | None ↦ 1 ])) (Some 1))
    go true (Some n) = (suc (suc n), refl, omega arith)
    go true None = (1, refl, omega arith)
    go false r = (1, refl, omega arith)
closes_again (x ∷ xs) rest = go (x == 34) refl (closes_again xs rest)
  where
    tail : List ℕ
    tail = flat_map doubled xs ++ 34 ∷ []

    plain : (l : List ℕ) → (x == 34) ≡ false → (0 < length l) → ClosesBy (length tail) (closes_at l) → ClosesBy (suc (length tail)) (closes_at (x ∷ l))
    plain [] other some more = absurd (omega arith)
    plain (c ∷ cs) other some more =
        let below : length tail ≤ more.0 = more.2 in
        (suc more.0, rw (other, more.1) refl, omega arith)

    some_tail : (l : List ℕ) → 0 < length ((l ++ 34 ∷ []) ++ rest)
    some_tail [] = omega arith
    some_tail (y ∷ ys) = omega arith

    go : (t : Bool) → (x == 34) ≡ t → ClosesBy (length tail) (closes_at (tail ++ rest)) → ClosesBy (length ((cond t (34 ∷ 34 ∷ []) (x ∷ []) ++ flat_map doubled xs) ++ 34 ∷ [])) (closes_at (((cond t (34 ∷ 34 ∷ []) (x ∷ []) ++ flat_map doubled xs) ++ 34 ∷ []) ++ rest))
    go true is more =
        let below : length tail ≤ more.0 = more.2 in
        (suc (suc more.0), rw more.1 refl, omega arith)
    go false is more = plain (tail ++ rest) is (some_tail (flat_map doubled xs)) more

-- what is known of what is left behind the first byte is known of the whole
pub second_of : (rest left : List ℕ) → left ≡ take (length rest - 1) (drop 1 rest) → 1 ≤ length left → get_or left 0 0 ≡ 34 → (2 ≤ length rest) × (get_or rest 1 0 ≡ 34)
second_of rest left is some quote = go rest left (is ∙ take_rest rest 1) some quote
  where
    go : (l m : List ℕ) → m ≡ drop 1 l → 1 ≤ length m → get_or m 0 0 ≡ 34 → (2 ≤ length l) × (get_or l 1 0 ≡ 34)
    go [] m same there first = let none : length m ≡ 0 = ap (λ (k : List ℕ). length k) same in absurd (omega arith)
    go (x ∷ l) m same there first =
        let lens : length m ≡ length l = ap (λ (k : List ℕ). length k) same in
        (omega arith, ap (λ (k : List ℕ). get_or k 0 0) (sym same) ∙ first)
