-- Samples cut into pieces, instance by instance.
use Rattle.std.proofs.Common.{◌≡◌, ℕ, zero, suc, ◌+◌, ◌<◌, ◌≤◌, min, List, [], ◌∷◌, ◌++◌, length, get_or, map, take, drop, refl, sym, ap, ◌∙◌, append_assoc, arith, inl, inr, zero-add, add-one}
use Rattle.std.proofs.lemmas.Bool.{cases_lt}
use Rattle.std.proofs.lemmas.Bool.Decides.{nat_tests}
use Rattle.std.proofs.lemmas.List.{append-nil, length-drop, length-take, take-append-drop, take_all, drop_all}
use Rattle.std.proofs.lemmas.List.Concat.{flat_map-cons}
use Rattle.std.specs.List.{AllByRecursion, flat_map}
use Rattle.mon_window.specs.Top.{rising}
use Rattle.mon_window.specs.Window.{Samples}
use Rattle.mon_exchange.specs.declared.sharing.Portion.{Portion}
use Rattle.mon_exchange.specs.Portions.{pieces, pieces_by, portion, portions_from, portions_of}

-- ---- pieces
more_than_enough : (k m : ℕ) (xs : List ℕ) → length xs ≤ k → length xs ≤ m → pieces_by k xs ≡ pieces_by m xs
more_than_enough zero zero xs h l = refl
more_than_enough zero (suc m) [] h l = refl
more_than_enough zero (suc m) (x ∷ xs) h l = absurd (omega arith)
more_than_enough (suc k) zero [] h l = refl
more_than_enough (suc k) zero (x ∷ xs) h l = absurd (omega arith)
more_than_enough (suc k) (suc m) [] h l = refl
more_than_enough (suc k) (suc m) (x ∷ xs) h l =
    ap (λ (p : List (List ℕ)). take 40 (x ∷ xs) ∷ p) (more_than_enough k m (drop 40 (x ∷ xs)) (omega (arith, length-drop 40 (x ∷ xs))) (omega (arith, length-drop 40 (x ∷ xs))))

-- the first piece, and the others
first_and_others : (x : ℕ) (xs : List ℕ) → pieces (x ∷ xs) ≡ take 40 (x ∷ xs) ∷ pieces (drop 40 (x ∷ xs))
first_and_others x xs =
    ap (λ (p : List (List ℕ)). take 40 (x ∷ xs) ∷ p) (more_than_enough (length xs) (length (drop 40 (x ∷ xs))) (drop 40 (x ∷ xs)) (omega (arith, length-drop 40 (x ∷ xs))) (omega arith))

min_above : (k : ℕ) → 40 < k → min k 40 ≡ 40
min_above k lt = grind (arith, nat_tests)

at_least : (n k : ℕ) → n ≡ min k 40 → k ≤ 40 → k ≤ n
at_least n k e le = let m : min k 40 ≡ k = grind (arith, nat_tests) in omega (arith, e, m)

pub first_piece : (n : ℕ) (xs : List ℕ) → n ≡ min (length xs) 40 → take n xs ≡ take 40 xs
first_piece n xs e = elim (cases_lt 40 (length xs)) [
  | inl more ↦ let m : n ≡ 40 = e ∙ min_above (length xs) more in ap (λ (k : ℕ). take k xs) m
  | inr few ↦ take_all n xs (at_least n (length xs) e few) ∙ sym (take_all 40 xs few)
]

pub other_pieces : (n : ℕ) (xs : List ℕ) → n ≡ min (length xs) 40 → drop n xs ≡ drop 40 xs
other_pieces n xs e = elim (cases_lt 40 (length xs)) [
  | inl more ↦ let m : n ≡ 40 = e ∙ min_above (length xs) more in ap (λ (k : ℕ). drop k xs) m
  | inr few ↦ drop_all n xs (at_least n (length xs) e few) ∙ sym (drop_all 40 xs few)
]

-- the first piece of what is left was appended
pub piece_more : (i : ℕ) (done : List Portion) (rest piece more : List ℕ) → 0 < length rest → piece ≡ take 40 rest → more ≡ drop 40 rest
    → (done ++ portion i piece ∷ []) ++ map (portion i) (pieces more) ≡ done ++ map (portion i) (pieces rest)
piece_more i done [] piece more some front back = absurd (omega arith)
piece_more i done (y ∷ rest) piece more some front back =
    append_assoc done (portion i piece ∷ []) (map (portion i) (pieces more))
    ∙ ap (λ (l : List Portion). done ++ l) ((λ k. portion i (front k) ∷ map (portion i) (pieces (back k))) ∙ ap (map (portion i)) (sym (first_and_others y rest)))

-- ---- what pieces are
abbrev same_list : List ℕ → List ℕ
same_list p = p

whole_by : (n : ℕ) (xs : List ℕ) → length xs ≤ n → flat_map same_list (pieces_by n xs) ≡ xs
whole_by zero [] h = refl
whole_by zero (x ∷ xs) h = absurd (omega arith)
whole_by (suc n) [] h = refl
whole_by (suc n) (x ∷ xs) h =
    flat_map-cons same_list (take 40 (x ∷ xs)) (pieces_by n (drop 40 (x ∷ xs)))
    ∙ ap (λ (r : List ℕ). take 40 (x ∷ xs) ++ r) (whole_by n (drop 40 (x ∷ xs)) (omega (arith, length-drop 40 (x ∷ xs)))) ∙ take-append-drop 40 (x ∷ xs)

pub whole_again : (samples : List ℕ) → flat_map same_list (pieces samples) ≡ samples
whole_again samples = whole_by (length samples) samples (omega arith)

abbrev IsPiece : List ℕ → Type 0
IsPiece p = (1 ≤ length p) × (length p ≤ 40)

sized_by : (n : ℕ) (xs : List ℕ) → AllByRecursion IsPiece (pieces_by n xs)
sized_by zero xs = tt
sized_by (suc n) [] = tt
sized_by (suc n) (x ∷ xs) = ((omega (arith, length-take 40 (x ∷ xs)), omega (arith, length-take 40 (x ∷ xs))), sized_by n (drop 40 (x ∷ xs)))

pub each_sized : (samples : List ℕ) → AllByRecursion IsPiece (pieces samples)
each_sized samples = sized_by (length samples) samples

none_of_none : (n : ℕ) (xs : List ℕ) → length xs ≡ 0 → length (pieces_by n xs) ≡ 0
none_of_none zero xs h = refl
none_of_none (suc n) [] h = refl
none_of_none (suc n) (x ∷ xs) h = absurd (omega (arith, h))

full_by : (n : ℕ) (xs : List ℕ) (k : ℕ) (d : List ℕ) → k + 1 < length (pieces_by n xs) → length (get_or (pieces_by n xs) k d) ≡ 40
full_by zero xs k d lt = absurd (omega arith)
full_by (suc n) [] k d lt = absurd (omega arith)
full_by (suc n) (x ∷ xs) zero d lt = elim (cases_lt 40 (length (x ∷ xs))) [
  | inl more ↦ omega (arith, length-take 40 (x ∷ xs), more)
  | inr few ↦
      let left : length (drop 40 (x ∷ xs)) ≡ 0 = omega (arith, length-drop 40 (x ∷ xs), few) in
      absurd (omega (arith, none_of_none n (drop 40 (x ∷ xs)) left, lt))
]
full_by (suc n) (x ∷ xs) (suc k) d lt = full_by n (drop 40 (x ∷ xs)) k d (omega (arith, lt))

pub all_but_last : (samples : List ℕ) (k : ℕ) (d : List ℕ) → k + 1 < length (pieces samples) → length (get_or (pieces samples) k d) ≡ 40
all_but_last samples k d lt = full_by (length samples) samples k d lt

-- ---- instances
module _ (owed : ℕ → Samples) where
  from_more : (i n : ℕ) → portions_from owed i (suc n) ≡ portions_from owed i n ++ portions_of owed (i + n)
  from_more i zero = append-nil (portions_of owed i) ∙ ap (portions_of owed) (omega arith)
  from_more i (suc n) =
      let place : i + 1 + n ≡ i + suc n = omega arith in
      ap (λ (l : List Portion). portions_of owed i ++ l) (from_more (i + 1) n)
      ∙ sym (append_assoc (portions_of owed i) (portions_from owed (i + 1) n) (portions_of owed (i + 1 + n)))
      ∙ ap (λ k. (portions_of owed i ++ portions_from owed (i + 1) n) ++ portions_of owed k) place

  -- the portions of one instance more
  pub instance_more : (i k : ℕ) (samples : List ℕ) → k ≡ i → samples ≡ rising (owed k) → portions_from owed 0 i ++ map (portion k) (pieces samples) ≡ portions_from owed 0 (i + 1)
  instance_more i k samples same is =
      ap (λ (l : List ℕ). portions_from owed 0 i ++ map (portion k) (pieces l)) is
      ∙ ap (λ n. portions_from owed 0 i ++ portions_of owed n) (same ∙ sym (zero-add i))
      ∙ sym (from_more 0 i)
      ∙ ap (λ n. portions_from owed 0 n) (sym (add-one i))
