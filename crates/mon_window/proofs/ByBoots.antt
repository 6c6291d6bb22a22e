-- Where the keys of a boots number are among rising keys, if a greater key is of the same boots
-- number or a later one.
use Rattle.std.proofs.Common.{◌≡◌, ℕ, zero, suc, ◌+◌, ◌-◌, ◌/◌, ◌^◌, ◌≤◌, ◌<◌, cond, inl, inr, List, [], ◌∷◌, ◌++◌, length, take, drop, get_or, refl, sym, ap, ◌∙◌, subst, arith, true, false, length-append, length-drop}
use Rattle.std.specs.Prelude.{nat_eq}
use Rattle.std.specs.declared.cmp.Ordering.{Ordering}
use Rattle.std.specs.declared.cmp.Ordering.TheVariants.{Less}
use Rattle.std.specs.Cmp.{IsTotalOrder, ranked}
use Rattle.std.specs.Ordering.{nat_cmp}
use Rattle.mon_sample.specs.Key.{boots_of}
use Rattle.std.proofs.lemmas.List.Sorted.{IsNonDecreasingBy-from_all_adjacent}
use Rattle.std.specs.FinSet.{IsAntisymmetric}
use Rattle.std.specs.List.{AllByRecursion, AllWithin, insert}
use Rattle.std.specs.List.Sorted.{IsStrictlySortedBy, IsNonDecreasingBy}
use Rattle.std.proofs.lemmas.Bool.{eq-eqb, cases_eq, cases_lt, ne_eqb}
use Rattle.std.proofs.lemmas.List.{take-append-drop, take-take, length-take, get_or-drop, get_or_default}
use Rattle.std.proofs.lemmas.List.Elements.{filter-append}
use Rattle.std.proofs.lemmas.List.Edits.{length-insert, get_or-insert_below, get_or-insert_at, get_or-insert_above}
use Rattle.std.proofs.lemmas.Map.Keys.{Less-from_sorted}
use Rattle.mon_window.specs.Leaving.{part, Fits, HasRoom, IsLeaving}
use Rattle.mon_window.specs.Place.{IsPlace}
use Rattle.mon_window.proofs.Kept.{sorted-placed}

module _ {K : Type 0} (boots : K → ℕ) (e : ℕ) where
  abbrev AllBefore : List K → ℕ → Type 0
  AllBefore xs i = AllWithin (λ y. boots y < e) xs 0 i

  abbrev AllFrom : List K → ℕ → Type 0
  AllFrom xs i = AllWithin (λ y. e ≤ boots y) xs i (length xs)

  -- none of the boots number comes before the earlier ones end
  none_before : (xs : List K) (i : ℕ) → AllBefore xs i → part boots e (take i xs) ≡ []
  none_before [] zero b = refl
  none_before [] (suc i) b = refl
  none_before (x ∷ xs) zero b = refl
  none_before (x ∷ xs) (suc i) b =
      let first : boots x < e = b 0 x (omega arith) (omega arith) in
      ap (λ t. cond t (x ∷ part boots e (take i xs)) (part boots e (take i xs))) (ne_eqb (boots x) e (omega arith))
      ∙ none_before xs i (λ k d low high. b (suc k) d (omega arith) (omega arith))

  none_later : (xs : List K) → AllByRecursion (λ y. e < boots y) xs → part boots e xs ≡ []
  none_later [] a = refl
  none_later (x ∷ xs) a =
      let first : e < boots x = a.0 in
      ap (λ t. cond t (x ∷ part boots e xs) (part boots e xs)) (ne_eqb (boots x) e (omega arith)) ∙ none_later xs a.1

  part-first : (x : K) (xs : List K) → boots x ≡ e → length (part boots e (x ∷ xs)) ≡ suc (length (part boots e xs))
  part-first x xs is = ap (λ t. length (cond t (x ∷ part boots e xs) (part boots e xs))) (eq-eqb (boots x) e is)

  part-few : (xs : List K) → length (part boots e xs) ≤ length xs
  part-few [] = omega arith
  part-few (x ∷ xs) =
      let rest = part-few xs in
      elim (nat_eq (boots x) e) as (λ t. length (cond t (x ∷ part boots e xs) (part boots e xs)) ≤ suc (length xs)) [ true ↦ omega arith | false ↦ omega arith ]

  -- where all are of the boots number, the first is
  first_of_all : (xs : List K) (d : K) → length xs ≤ length (part boots e xs) → 0 < length xs → boots (get_or xs 0 d) ≡ e
  first_of_all [] d all some = absurd (omega arith)
  first_of_all (x ∷ xs) d all some = elim (cases_eq (boots x) e) [
    | inl is ↦ is
    | inr ne ↦
        let few = part-few xs in
        let none : length (part boots e (x ∷ xs)) ≡ length (part boots e xs) = ap (λ t. length (cond t (x ∷ part boots e xs) (part boots e xs))) (ne_eqb (boots x) e ne) in
        absurd (omega arith)
  ]

  -- an epoch of no less than the size
  pub whole_room : (n m : ℕ) (xs : List K) → n ≤ m → length xs < n → HasRoom boots n m e xs
  whole_room n m xs whole few = let part_few = part-few xs in record { epoch = omega arith; few = few }

  pub whole_leaves : (n m : ℕ) (xs : List K) (at : ℕ) → n ≤ m → length xs ≤ n → n ≤ length xs → at ≤ length xs → IsLeaving boots n m e xs at 0
  whole_leaves n m xs at whole few full within = elim (cases_lt (length (part boots e xs)) m) [
    | inl short ↦ inr (short, full, refl)
    | inr taken ↦ inl (taken, record { within = omega arith; alone = refl; here = λ d later. first_of_all xs d (omega arith) (omega arith) })
  ]

  part-more : (x : K) (xs : List K) → length (part boots e xs) ≤ length (part boots e (x ∷ xs))
  part-more x xs = elim (nat_eq (boots x) e) as (λ t. length (part boots e xs) ≤ length (cond t (x ∷ part boots e xs) (part boots e xs))) [ true ↦ omega arith | false ↦ omega arith ]

  -- at least as many as are side by side are there
  run_counted : (xs : List K) (i j : ℕ) → i ≤ j → j ≤ length xs → AllWithin (λ y. boots y ≡ e) xs i j → j - i ≤ length (part boots e xs)
  run_counted [] i j order within a = omega arith
  run_counted (x ∷ xs) i zero order within a = omega arith
  run_counted (x ∷ xs) zero (suc j) order within a =
      let first : boots x ≡ e = a 0 x (omega arith) (omega arith) in
      let long = part-first x xs first in
      let rest = run_counted xs 0 j (omega arith) (omega arith) (λ k d low high. a (suc k) d (omega arith) (omega arith)) in
      omega arith
  run_counted (x ∷ xs) (suc i) (suc j) order within a =
      let rest = run_counted xs i j (omega arith) (omega arith) (λ k d low high. a (suc k) d (omega arith) (omega arith)) in
      let more = part-more x xs in
      omega arith

  -- none of the boots number comes where the later ones begin
  none_after : (xs : List K) → AllWithin (λ y. e < boots y) xs 0 (length xs) → part boots e xs ≡ []
  none_after [] a = refl
  none_after (x ∷ xs) a =
      let first : e < boots x = a 0 x (omega arith) (omega arith) in
      ap (λ t. cond t (x ∷ part boots e xs) (part boots e xs)) (ne_eqb (boots x) e (omega arith)) ∙ none_after xs (λ k d low high. a (suc k) d (omega arith) (omega arith))

  module _ {R : K → K → Ordering} (mono : (x y : K) → R x y ≡ Less → boots x ≤ boots y) where
    all_later : (x : K) (xs : List K) → e < boots x → AllByRecursion (λ y. R x y ≡ Less) xs → AllByRecursion (λ y. e < boots y) xs
    all_later x [] later a = tt
    all_later x (y ∷ ys) later a = let up = mono x y a.0 in (omega arith, all_later x ys later a.1)

    no_earlier : (x : K) (xs : List K) (k : ℕ) (d : K) → AllByRecursion (λ y. R x y ≡ Less) xs → k < length xs → boots x ≤ boots (get_or xs k d)
    no_earlier x [] k d a h = absurd (omega arith)
    no_earlier x (y ∷ ys) zero d a h = mono x y a.0
    no_earlier x (y ∷ ys) (suc k) d a h = no_earlier x ys k d a.1 (omega arith)

    sorted-drop : (xs : List K) (i : ℕ) → IsStrictlySortedBy R xs → IsStrictlySortedBy R (drop i xs)
    unfolding IsStrictlySortedBy
    sorted-drop [] zero s = s
    sorted-drop [] (suc i) s = s
    sorted-drop (x ∷ xs) zero s = s
    sorted-drop (x ∷ xs) (suc i) s = sorted-drop xs i s.1

    past : (x : K) (xs : List K) → AllByRecursion (λ y. R x y ≡ Less) xs → e ≤ boots x → (boots x ≡ e → ⊥) → length (part boots e (x ∷ xs)) ≡ 0
    past x xs below low ne =
        ap (λ t. length (cond t (x ∷ part boots e xs) (part boots e xs))) (ne_eqb (boots x) e ne) ∙ ap length (none_later xs (all_later x xs (let other = ne in omega arith) below))

    -- the part is at the front of what is not earlier
    in_part : (xs : List K) → IsStrictlySortedBy R xs → AllFrom xs 0 → (k : ℕ) (d : K) → k < length (part boots e xs) → boots (get_or xs k d) ≡ e
    unfolding IsStrictlySortedBy
    in_part [] s a k d h = absurd (omega arith)
    in_part (x ∷ xs) s a zero d h = elim (cases_eq (boots x) e) [
      | inl is ↦ is
      | inr ne ↦ let none = past x xs s.0 (a 0 x (omega arith) (omega arith)) ne in absurd (omega arith)
    ]
    in_part (x ∷ xs) s a (suc k) d h = elim (cases_eq (boots x) e) [
      | inl is ↦ let long = part-first x xs is in in_part xs s.1 (λ j c l g. a (suc j) c (omega arith) (omega arith)) k d (omega arith)
      | inr ne ↦ let none = past x xs s.0 (a 0 x (omega arith) (omega arith)) ne in absurd (omega arith)
    ]

    from_part : (xs : List K) → IsStrictlySortedBy R xs → AllFrom xs 0 → (k : ℕ) (d : K) → k < length xs → boots (get_or xs k d) ≡ e → k < length (part boots e xs)
    unfolding IsStrictlySortedBy
    from_part [] s a k d h is = absurd (omega arith)
    from_part (x ∷ xs) s a zero d h is = let long = part-first x xs is in omega arith
    from_part (x ∷ xs) s a (suc k) d h is =
        let low : e ≤ boots x = a 0 x (omega arith) (omega arith) in
        let up = no_earlier x xs k d s.0 (omega arith) in
        let long = part-first x xs (omega arith) in
        let rest = from_part xs s.1 (λ j c l g. a (suc j) c (omega arith) (omega arith)) k d (omega arith) is in
        omega arith

    module _ (xs : List K) (s : IsStrictlySortedBy R xs) (first : ℕ) (bound : first ≤ length xs) (before : AllBefore xs first) (after : AllFrom xs first) where
      all_after : AllFrom (drop first xs) 0
      all_after k d low high = subst (λ y. e ≤ boots y) (sym (get_or-drop first xs k d)) (after (first + k) d (omega arith) (omega (arith, length-drop first xs)))

      part-after : length (part boots e xs) ≡ length (part boots e (drop first xs))
      part-after =
          ap (λ ys. length (part boots e ys)) (sym (take-append-drop first xs)) ∙ ap length (filter-append (λ y. nat_eq (boots y) e) (take first xs) (drop first xs))
          ∙ ap (λ ys. length (ys ++ part boots e (drop first xs))) (none_before xs first before)

      stands : (k : ℕ) (d : K) → k < length (part boots e xs) → boots (get_or xs (first + k) d) ≡ e
      stands k d h = subst (λ y. boots y ≡ e) (get_or-drop first xs k d) (in_part (drop first xs) (sorted-drop xs first s) all_after k d (omega (arith, part-after)))

      -- the place where the last of m of the boots number would be shows whether m are there
      pub epoch_shown : (m : ℕ) (d : K) → 1 ≤ m → m ≤ length xs - first → boots (get_or xs (first + (m - 1)) d) ≡ e → m ≤ length (part boots e xs)
      epoch_shown m d some within is =
          let rest = from_part (drop first xs) (sorted-drop xs first s) all_after (m - 1) d (omega (arith, length-drop first xs)) (ap boots (get_or-drop first xs (m - 1) d) ∙ is) in
          omega (arith, part-after)

      pub epoch_stands : (m : ℕ) (d : K) → 1 ≤ m → m ≤ length (part boots e xs) → boots (get_or xs (first + (m - 1)) d) ≡ e
      epoch_stands m d some full = stands (m - 1) d (omega arith)

      pub epoch_hidden : (m : ℕ) (d : K) → 1 ≤ m → (m ≤ length xs - first → boots (get_or xs (first + (m - 1)) d) ≡ e → ⊥) → length (part boots e xs) < m
      epoch_hidden m d some not_there = elim (cases_lt (length (part boots e xs)) m) [
        | inl few ↦ few
        | inr many ↦
            let few = part-few (drop first xs) in
            absurd (not_there (omega (arith, part-after, length-drop first xs)) (stands (m - 1) d (omega arith)))
      ]

      -- a full epoch: the first of the boots number leaves as a key of the boots number joins
      pub first_leaves : (o : IsTotalOrder R) (same : IsAntisymmetric R) (n m : ℕ) (x : K) (at : ℕ) → IsPlace R xs x at → boots x ≡ e → 1 ≤ m → m ≤ length (part boots e xs) → IsLeaving boots n m e xs at first
      first_leaves o same n m x at p is some full = inl (
        full,
        record {
          within = elim (cases_lt at first) [
            | inl passed ↦
                let placed = sorted-placed o same x xs at s p in
                let less = Less-from_sorted R (insert xs at x) at (at + 1) x placed (omega arith) (omega (arith, length-insert xs at x p.within)) in
                let up = mono x (get_or xs at x) ((λ i. R (sym (get_or-insert_at xs at x x p.within) i) (sym (get_or-insert_above xs at x x at (omega arith) p.within) i)) ∙ less) in
                let low = before at x (omega arith) passed in
                absurd (omega arith)
            | inr within ↦ within
          ];
          alone = none_before xs first before;
          here = λ d out. let itself : first + 0 ≡ first = omega arith in subst (λ k. boots (get_or xs k d) ≡ e) itself (stands 0 d (omega arith));
        },
      )

-- ---- where a key of a boots number comes, and how many of the boots number come before it
module _ {K : Type 0} {R : K → K → Ordering} (o : IsTotalOrder R) (same : IsAntisymmetric R) (boots : K → ℕ) (mono : (x y : K) → R x y ≡ Less → boots x ≤ boots y)
    (x : K) (xs : List K) (at : ℕ) (s : IsStrictlySortedBy R xs) (p : IsPlace R xs x at) where
  at_within : at ≤ length xs
  at_within = p.within

  rises : (i j : ℕ) (d : K) → i ≤ j → j < length xs → boots (get_or xs i d) ≤ boots (get_or xs j d)
  rises i j d order within = elim (cases_eq i j) [
    | inl is ↦ let e : boots (get_or xs i d) ≡ boots (get_or xs j d) = ap (λ k. boots (get_or xs k d)) is in omega arith
    | inr ne ↦ mono _ _ (Less-from_sorted R xs i j d s (let other = ne in omega arith) within)
  ]

  -- what comes before it is of its boots number or an earlier one, and what comes after it of its
  -- boots number or a later one
  earlier : (k : ℕ) (d : K) → k < at → boots (get_or xs k d) ≤ boots x
  earlier k d before =
      let less = Less-from_sorted R (insert xs at x) k at d (sorted-placed o same x xs at s p) before (omega (arith, length-insert xs at x p.within, at_within)) in
      mono (get_or xs k d) x ((λ i. R (sym (get_or-insert_below xs at x d k before p.within) i) (sym (get_or-insert_at xs at x d p.within) i)) ∙ less)

  later : (k : ℕ) (d : K) → at ≤ k → k < length xs → boots x ≤ boots (get_or xs k d)
  later k d after within =
      let less = Less-from_sorted R (insert xs at x) at (k + 1) d (sorted-placed o same x xs at s p) (omega arith) (omega (arith, length-insert xs at x p.within)) in
      mono x (get_or xs k d) ((λ i. R (sym (get_or-insert_at xs at x d p.within) i) (sym (get_or-insert_above xs at x d k after p.within) i)) ∙ less)

  module _ (n m : ℕ) (some : 1 ≤ m) (fits : Fits boots n m xs) where
    -- a whole epoch comes before it
    pub epoch_before : (d : K) → m ≤ at → boots (get_or xs (at - m) d) ≡ boots x → IsLeaving boots n m (boots x) xs at (at - m)
    epoch_before d enough is =
        first_leaves boots (boots x) mono xs s (at - m) (omega (arith, at_within)) before after o same n m x at p refl some
        (let run = run_counted boots (boots x) xs (at - m) at (omega arith) at_within (λ k c low high. of_it k c low high) in omega arith)
      where
        start : (c : K) → boots (get_or xs (at - m) c) ≡ boots x
        start c = ap boots (get_or_default xs (at - m) c d (omega (arith, at_within))) ∙ is

        of_it : (k : ℕ) (c : K) → at - m ≤ k → k < at → boots (get_or xs k c) ≡ boots x
        of_it k c low high =
            let up = rises (at - m) k c low (omega (arith, at_within)) in
            let down = earlier k c high in
            let first = start c in
            omega arith

        before : AllWithin (λ y. boots y < boots x) xs 0 (at - m)
        before k c low high = elim (cases_lt (boots (get_or xs k c)) (boots x)) [
          | inl less ↦ less
          | inr not_less ↦
              let run = run_counted boots (boots x) xs k at (omega arith) at_within (λ j b from to.
              let up = rises k j b from (omega (arith, at_within)) in
              let down = earlier j b to in
              let first : boots (get_or xs k b) ≡ boots (get_or xs k c) = ap boots (get_or_default xs k b c (omega (arith, at_within))) in
              omega arith) in
              let most = fits.epochs (boots x) in
              absurd (omega arith)
        ]

        after : AllWithin (λ y. boots x ≤ boots y) xs (at - m) (length xs)
        after k c low high = let up = rises (at - m) k c low high in let first = start c in omega arith

    -- nothing of the boots number comes after it, and no whole epoch before it
    pub no_epoch_before : (d : K) → (m ≤ at → boots (get_or xs (at - m) d) ≡ boots x → ⊥) → (at < length xs → boots (get_or xs at d) ≡ boots x → ⊥) → length (part boots (boots x) xs) < m
    no_epoch_before d not_before not_after =
        let none : length (part boots (boots x) (drop at xs)) ≡ 0 = ap length nothing in
        let split : length (part boots (boots x) xs) ≡ length (part boots (boots x) (take at xs)) + length (part boots (boots x) (drop at xs)) =
        ap (λ ys. length (part boots (boots x) ys)) (sym (take-append-drop at xs)) ∙ ap length (filter-append (λ y. nat_eq (boots y) (boots x)) (take at xs) (drop at xs))
        ∙ length-append (part boots (boots x) (take at xs)) (part boots (boots x) (drop at xs)) in
        let few = part-few boots (boots x) (take at xs) in
        elim (cases_lt at m) [
          | inl short ↦ omega (arith, split, none, length-take at xs)
          | inr enough ↦
              let rest = part-few boots (boots x) (drop (at - m + 1) (take at xs)) in
              let cut : length (part boots (boots x) (take at xs)) ≡ length (part boots (boots x) (drop (at - m + 1) (take at xs))) =
              ap (λ ys. length (part boots (boots x) ys)) (sym (take-append-drop (at - m + 1) (take at xs)))
              ∙ ap length (filter-append (λ y. nat_eq (boots y) (boots x)) (take (at - m + 1) (take at xs)) (drop (at - m + 1) (take at xs)))
              ∙ ap (λ ys. length (part boots (boots x) ys ++ part boots (boots x) (drop (at - m + 1) (take at xs)))) (take-take (at - m + 1) at xs (omega arith))
              ∙ ap (λ ys. length (ys ++ part boots (boots x) (drop (at - m + 1) (take at xs)))) (none_before boots (boots x) xs (at - m + 1) (front enough)) in
              omega (arith, split, none, cut, length-drop (at - m + 1) (take at xs), length-take at xs, at_within)
        ]
      where
        nothing : part boots (boots x) (drop at xs) ≡ []
        nothing = none_after boots (boots x) (drop at xs) (λ k c low high.
            let within : at + k < length xs = omega (arith, length-drop at xs) in
            let first : boots (get_or xs at c) ≡ boots (get_or xs at d) = ap boots (get_or_default xs at c d (omega arith)) in
            let up = rises at (at + k) c (omega arith) within in
            let low_end = later at c (omega arith) (omega arith) in
            elim (cases_eq (boots (get_or xs at c)) (boots x)) [
              | inl is ↦ absurd (not_after (omega arith) (sym first ∙ is))
              | inr ne ↦ let other = ne in subst (λ y. boots x < boots y) (sym (get_or-drop at xs k c)) (omega arith)
            ])

        front : m ≤ at → AllWithin (λ y. boots y < boots x) xs 0 (at - m + 1)
        front enough k c low high =
            let up = rises k (at - m) c (omega arith) (omega (arith, at_within)) in
            let down = earlier (at - m) c (omega arith) in
            let first : boots (get_or xs (at - m) c) ≡ boots (get_or xs (at - m) d) = ap boots (get_or_default xs (at - m) c d (omega (arith, at_within))) in
            elim (cases_eq (boots (get_or xs (at - m) c)) (boots x)) [
              | inl is ↦ absurd (not_before enough (sym first ∙ is))
              | inr ne ↦ let other = ne in omega arith
            ]

-- of rising keys the epochs don't fall
pub boots-rise : {K : Type 0} {R : K → K → Ordering} (boots : K → ℕ) → ((x y : K) → R x y ≡ Less → boots x ≤ boots y) → (xs : List K) → IsStrictlySortedBy R xs → IsNonDecreasingBy boots xs
boots-rise {R = R} boots mono xs s = IsNonDecreasingBy-from_all_adjacent boots xs (λ k d low. mono (get_or xs k d) (get_or xs (k + 1) d) (Less-from_sorted R xs k (k + 1) d s (omega arith) (omega arith)))

-- a newer sample is of the same boots number or later ones
pub boots_rise : (x y : ℕ) → nat_cmp x y ≡ Less → boots_of x ≤ boots_of y
boots_rise x y e = steps (ranked x y Less (sym e))
  where
    steps : x < y → boots_of x ≤ boots_of y
    steps h =
        let value : x / 2 ^ 64 ≤ y / 2 ^ 64 = omega arith in
        let tag : x / 2 ^ 64 / 2 ^ 8 ≤ y / 2 ^ 64 / 2 ^ 8 = omega arith in
        let discontinuity : x / 2 ^ 64 / 2 ^ 8 / 2 ^ 32 ≤ y / 2 ^ 64 / 2 ^ 8 / 2 ^ 32 = omega arith in
        omega arith
