-- Samples of one boots number are neighbours in a rising list.
use Rattle.std.proofs.Common.{◌≡◌, ℕ, zero, suc, ◌+◌, ◌<◌, ◌≤◌, true, false, List, [], ◌∷◌, length, get_or, refl, sym, ap, subst, ◌∙◌, ◌⊎◌, inl, inr, arith, ◌/◌, ◌^◌}
use Rattle.std.specs.Prelude.{nat_lt, not}
use Rattle.std.specs.declared.cmp.Ordering.TheVariants.{Less, Equal, Greater}
use Rattle.std.specs.List.{AllByRecursion, list_all}
use Rattle.std.specs.List.Sorted.{IsStrictlySortedBy}
use Rattle.std.specs.Ordering.{nat_cmp}
use Rattle.std.proofs.lemmas.Bool.{cases_Bool, cases_lt, cases_eq, eq-eqb, ne_eqb, and_parts, and_from, not-true, ltb-false, le-ltb}
use Rattle.mon_sample.specs.Key.{boots_of}
use Rattle.mon_saved.specs.Image.{of_boots}
use Rattle.mon_saved.specs.Reading.{fits_epoch}

-- ---- counting
count_same : (s : ℕ) (xs : List ℕ) (e : ℕ) → boots_of s ≡ e → of_boots e (s ∷ xs) ≡ suc (of_boots e xs)
count_same s xs e is = rw (eq-eqb (boots_of s) e is) refl

count_other : (s : ℕ) (xs : List ℕ) (e : ℕ) → (boots_of s ≡ e → ⊥) → of_boots e (s ∷ xs) ≡ of_boots e xs
count_other s xs e differ = rw (ne_eqb (boots_of s) e differ) refl

count_most : (s : ℕ) (xs : List ℕ) (e : ℕ) → (of_boots e xs ≤ of_boots e (s ∷ xs)) × (of_boots e (s ∷ xs) ≤ suc (of_boots e xs))
count_most s xs e = elim (cases_eq (boots_of s) e) [
  | inl is ↦ (omega (arith, count_same s xs e is), omega (arith, count_same s xs e is))
  | inr differ ↦ (omega (arith, count_other s xs e differ), omega (arith, count_other s xs e differ))
]

-- ---- rising lists
pub less_lt : (x y : ℕ) → nat_cmp x y ≡ Less → x < y
less_lt x y e = elim (cases_lt x y) [
  | inl lt ↦ lt
  | inr le ↦ absurd (elim (cases_eq x y) [
    | inl same ↦ (let b : nat_cmp x y ≡ Equal = rw (le-ltb x y le, eq-eqb x y same) refl in let c : Less ≡ Equal = sym e ∙ b in cc)
    | inr differ ↦ (let b : nat_cmp x y ≡ Greater = rw (le-ltb x y le, ne_eqb x y differ) refl in let c : Less ≡ Greater = sym e ∙ b in cc)
  ])
]

boots_up : (x y : ℕ) → x ≤ y → boots_of x ≤ boots_of y
boots_up x y h =
    let value : x / 2 ^ 64 ≤ y / 2 ^ 64 = omega (arith, h) in
    let tag : x / 2 ^ 64 / 2 ^ 8 ≤ y / 2 ^ 64 / 2 ^ 8 = omega arith in
    let discontinuity : x / 2 ^ 64 / 2 ^ 8 / 2 ^ 32 ≤ y / 2 ^ 64 / 2 ^ 8 / 2 ^ 32 = omega arith in
    omega arith

-- no later element has a smaller boots number than the first
first_least : (x : ℕ) (xs : List ℕ) (k d : ℕ) → AllByRecursion (λ y. nat_cmp x y ≡ Less) xs → k < length xs → boots_of x ≤ boots_of (get_or xs k d)
first_least x [] k d all lt = absurd (omega (arith, lt))
first_least x (y ∷ xs) zero d all lt = let up = less_lt x y all.0 in boots_up x y (omega (arith, up))
first_least x (y ∷ xs) (suc k) d all lt = first_least x xs k d all.1 (omega (arith, lt))

none_above : (e x : ℕ) (xs : List ℕ) → e < boots_of x → AllByRecursion (λ y. nat_cmp x y ≡ Less) xs → of_boots e xs ≡ 0
none_above e x [] lt all = refl
none_above e x (y ∷ xs) lt all =
    let up = less_lt x y all.0 in
    let high = boots_up x y (omega (arith, up)) in
    count_other y xs e (λ is. omega (arith, is, lt, high)) ∙ none_above e x xs lt all.1

-- where the element at n is above e, or there is none, at most n have e
most_before : (e n : ℕ) (xs : List ℕ) (d : ℕ) → IsStrictlySortedBy nat_cmp xs → (n < length xs → e < boots_of (get_or xs n d)) → of_boots e xs ≤ n
unfolding IsStrictlySortedBy
most_before e n [] d sorted high = omega arith
most_before e zero (x ∷ xs) d sorted high =
    let lt = high (omega arith) in
    omega (arith, count_other x xs e (λ is. omega (arith, is, lt)), none_above e x xs lt sorted.0)
most_before e (suc n) (x ∷ xs) d sorted high =
    let rest = most_before e n xs d sorted.1 (λ lt. high (omega (arith, lt))) in
    omega (arith, rest, (count_most x xs e).1)

-- ---- no two of one boots number so far apart
few_when_apart : (m : ℕ) (xs : List ℕ) (d : ℕ) → IsStrictlySortedBy nat_cmp xs → ((k : ℕ) → k + m < length xs → boots_of (get_or xs (k + m) d) ≡ boots_of (get_or xs k d) → ⊥)
    → (e : ℕ) → of_boots e xs ≤ m
unfolding IsStrictlySortedBy
few_when_apart m [] d sorted apart e = omega arith
few_when_apart zero (x ∷ xs) d sorted apart e = absurd (apart 0 (omega arith) refl)
few_when_apart (suc m) (x ∷ xs) d sorted apart e =
    elim (cases_eq (boots_of x) e) [
      | inr differ ↦ (
          let rest = few_when_apart (suc m) xs d sorted.1 (λ k lt same. apart (suc k) (omega (arith, lt)) (subst (λ (j : ℕ). boots_of (get_or (x ∷ xs) j d) ≡ boots_of (get_or xs k d)) (let e : suc (k + suc m) ≡ suc k + suc m = omega arith in e) same)) e in
          omega (arith, rest, count_other x xs e differ))
      | inl is ↦ (
          let rest = most_before e m xs d sorted.1 (λ lt.
          (let up = first_least x xs m d sorted.0 lt in
          elim (cases_lt e (boots_of (get_or xs m d))) [
            | inl above ↦ above
            | inr le ↦ absurd (apart 0 (omega (arith, lt)) (let none : 0 + suc m ≡ suc m = omega arith in subst (λ (j : ℕ). boots_of (get_or (x ∷ xs) j d) ≡ boots_of x) (sym none) (omega (arith, up, le, is))))
          ])) in
          omega (arith, rest, count_same x xs e is))
    ]

many_from : (e m : ℕ) (x : ℕ) (xs : List ℕ) (d : ℕ) → IsStrictlySortedBy nat_cmp (x ∷ xs) → boots_of x ≡ e → m < length (x ∷ xs) → boots_of (get_or (x ∷ xs) m d) ≡ e → m < of_boots e (x ∷ xs)
unfolding IsStrictlySortedBy
many_from e zero x xs d sorted is lt there = omega (arith, count_same x xs e is)
many_from e (suc m) x [] d sorted is lt there = absurd (omega (arith, lt))
many_from e (suc m) x (y ∷ xs) d sorted is lt there =
    let low = first_least x (y ∷ xs) 0 d sorted.0 (omega arith) in
    let next : boots_of y ≡ e = omega (arith, low, is, up m (omega (arith, lt)) there) in
    let rest = many_from e m y xs d sorted.1 next (omega (arith, lt)) there in
    omega (arith, rest, count_same x (y ∷ xs) e is)
  where
    up : (m : ℕ) → m < suc (length xs) → boots_of (get_or (y ∷ xs) m d) ≡ e → boots_of y ≤ e
    up zero below is_there = omega (arith, is_there)
    up (suc k) below is_there = omega (arith, is_there, first_least y xs k d sorted.1.0 (omega (arith, below)))

many_when_same : (i m : ℕ) (xs : List ℕ) (d : ℕ) → IsStrictlySortedBy nat_cmp xs → i + m < length xs → boots_of (get_or xs (i + m) d) ≡ boots_of (get_or xs i d)
    → m < of_boots (boots_of (get_or xs i d)) xs
unfolding IsStrictlySortedBy
many_when_same i m [] d sorted lt same = absurd (omega (arith, lt))
many_when_same zero m (x ∷ xs) d sorted lt same =
    let none : 0 + m ≡ m = omega arith in
    many_from (boots_of x) m x xs d sorted refl (omega (arith, lt)) (subst (λ (j : ℕ). boots_of (get_or (x ∷ xs) j d) ≡ boots_of x) none same)
many_when_same (suc i) m (x ∷ xs) d sorted lt same =
    let rest = many_when_same i m xs d sorted.1 (omega (arith, lt)) (subst (λ (j : ℕ). boots_of (get_or (x ∷ xs) j d) ≡ boots_of (get_or xs i d)) (let e : suc i + m ≡ suc (i + m) = omega arith in e) same) in
    omega (arith, rest, (count_most x xs (boots_of (get_or xs i d))).0)

-- ---- the test
-- each sample's boots number has few enough, and so has every number
from_each : (m : ℕ) (all some : List ℕ) → AllByRecursion (λ s. of_boots (boots_of s) all ≤ m) some → (e : ℕ) → (of_boots e some ≡ 0) ⊎ (of_boots e all ≤ m)
from_each m all [] a e = inl refl
from_each m all (s ∷ some) a e = elim (cases_eq (boots_of s) e) [
  | inl is ↦ inr (subst (λ (b : ℕ). of_boots b all ≤ m) is a.0)
  | inr differ ↦ elim (from_each m all some a.1 e) [
    | inl none ↦ inl (count_other s some e differ ∙ none)
    | inr few ↦ inr few
  ]
]

tests_from : (m : ℕ) (all some : List ℕ) → list_all (λ s. not (nat_lt m (of_boots (boots_of s) all))) some ≡ true → AllByRecursion (λ s. of_boots (boots_of s) all ≤ m) some
tests_from m all [] e = tt
tests_from m all (s ∷ some) e =
    let p = and_parts (not (nat_lt m (of_boots (boots_of s) all))) (list_all (λ t. not (nat_lt m (of_boots (boots_of t) all))) some) e in
    (ltb-false m (of_boots (boots_of s) all) (not-true (nat_lt m (of_boots (boots_of s) all)) p.0), tests_from m all some p.1)

pub fits_epoch_from : (m : ℕ) (xs : List ℕ) → fits_epoch m xs ≡ true → (e : ℕ) → of_boots e xs ≤ m
fits_epoch_from m xs t e = elim (from_each m xs xs (tests_from m xs xs t) e) [
  | inl none ↦ omega (arith, none)
  | inr few ↦ few
]

tests_when : (m : ℕ) (all some : List ℕ) → ((e : ℕ) → of_boots e all ≤ m) → list_all (λ s. not (nat_lt m (of_boots (boots_of s) all))) some ≡ true
tests_when m all [] few = refl
tests_when m all (s ∷ some) few =
    and_from (not (nat_lt m (of_boots (boots_of s) all))) (list_all (λ t. not (nat_lt m (of_boots (boots_of t) all))) some)
    (ap not (le-ltb m (of_boots (boots_of s) all) (few (boots_of s)))) (tests_when m all some few)

pub fits_epoch_when : (m : ℕ) (xs : List ℕ) → ((e : ℕ) → of_boots e xs ≤ m) → fits_epoch m xs ≡ true
fits_epoch_when m xs few = tests_when m xs xs few

pub is_apart : (m : ℕ) (xs : List ℕ) (d : ℕ) → IsStrictlySortedBy nat_cmp xs → ((k : ℕ) → k + m < length xs → boots_of (get_or xs (k + m) d) ≡ boots_of (get_or xs k d) → ⊥) → fits_epoch m xs ≡ true
is_apart m xs d sorted apart = fits_epoch_when m xs (few_when_apart m xs d sorted apart)

pub is_close : (m i : ℕ) (xs : List ℕ) (d : ℕ) → IsStrictlySortedBy nat_cmp xs → i + m < length xs → boots_of (get_or xs (i + m) d) ≡ boots_of (get_or xs i d) → fits_epoch m xs ≡ false
is_close m i xs d sorted lt same = elim (cases_Bool (fits_epoch m xs)) [
  | inr none ↦ none
  | inl is ↦ absurd (let few = fits_epoch_from m xs is (boots_of (get_or xs i d)) in omega (arith, few, many_when_same i m xs d sorted lt same))
]
