-- Whether a name is in a view is decided: each condition on a family is, and the families are a
-- list.
use Rattle.std.proofs.Common.{◌≡◌, ℕ, zero, suc, ◌<◌, ◌≤◌, ◌/◌, ◌%◌, ◌-◌, Bool, true, false, true≢false, List, [], ◌∷◌, length, slice_index, Contains, IsTrue, bit_and, ◌^◌, ◌⊎◌, inl, inr, refl, sym, subst, arith}
use Rattle.std.specs.Ordering.{is_le}
use Rattle.std.proofs.lemmas.Bool.Decides.{leb_tells, eqb_tells}
use Rattle.mon_vacm.specs.declared.family.ViewTreeFamily.{ViewTreeFamily}
use Rattle.mon_vacm.specs.View.{MustAgree, IsMatch, Applies, IsInView, subtree_cmp}

-- it holds, or it doesn't
abbrev pub OrNot : Type 0 → Type 0
OrNot P = P ⊎ (¬ P)

both : {P Q : Type 0} → OrNot P → OrNot Q → OrNot (P × Q)
both (inl p) (inl q) = inl (p, q)
both (inl p) (inr q) = inr (λ h. q h.1)
both (inr p) q = inr (λ h. p h.0)

implied : {P Q : Type 0} → OrNot P → OrNot Q → OrNot (P → Q)
implied (inl p) (inl q) = inl (λ _. q)
implied (inl p) (inr q) = inr (λ h. q (h p))
implied (inr p) q = inl (λ h. absurd (p h))

negated : {P : Type 0} → OrNot P → OrNot (¬ P)
negated (inl p) = inr (λ n. n p)
negated (inr n) = inl n

like : {P Q : Type 0} → (P → Q) → (Q → P) → OrNot P → OrNot Q
like f g (inl p) = inl (f p)
like f g (inr n) = inr (λ q. n (g q))

-- ---- numbers, truth values and lists of numbers

at_most : (a b : ℕ) → OrNot (a ≤ b)
at_most a b = elim (leb_tells a b) [
  | inl is ↦ inl is.1
  | inr is ↦ inr (λ le. let lt = is.1 in omega arith)
]

same_number : (a b : ℕ) → OrNot (a ≡ b)
same_number a b = elim (eqb_tells a b) [
  | inl is ↦ inl is.1
  | inr is ↦ inr is.1
]

so : (b : Bool) → OrNot (IsTrue b)
so true = inl refl
so false = inr (λ e. true≢false (sym e))

same_list : (xs ys : List ℕ) → OrNot (xs ≡ ys)
same_list [] [] = inl refl
same_list [] (y ∷ ys) = inr (λ e. cc)
same_list (x ∷ xs) [] = inr (λ e. cc)
same_list (x ∷ xs) (y ∷ ys) = like joined parted (both (same_number x y) (same_list xs ys))
  where
    joined : (x ≡ y) × (xs ≡ ys) → x ∷ xs ≡ y ∷ ys
    joined h = let first = h.0 in let rest = h.1 in cc

    parted : x ∷ xs ≡ y ∷ ys → (x ≡ y) × (xs ≡ ys)
    parted e = (cc, cc)

-- ---- at all numbers below n, and at all elements of a list

below : (P : ℕ → Type 0) → ((i : ℕ) → OrNot (P i)) → (n : ℕ) → OrNot ((i : ℕ) → i < n → P i)
below P each zero = inl (λ i lt. absurd (omega arith))
below P each (suc n) = like joined (λ all. (all n (omega arith), λ i lt. all i (omega arith))) (both (each n) (below P each n))
  where
    joined : P n × ((i : ℕ) → i < n → P i) → (i : ℕ) → i < suc n → P i
    joined h i lt = elim (same_number i n) [
      | inl is ↦ subst P (sym is) h.0
      | inr other ↦ h.1 i (least i lt other)
    ]
      where
        least : (i : ℕ) → i < suc n → (i ≡ n → ⊥) → i < n
        least i lt other = grind (arith, other)

head_or_rest : {X : Type 0} (x y : X) (xs : List X) → Contains (x ∷ xs) y → (x ≡ y) ⊎ Contains xs y
head_or_rest x y xs (zero, lt, is) = inl is
head_or_rest x y xs (suc k, lt, is) = inr (k, omega arith, is)

at_head : {X : Type 0} (x : X) (xs : List X) → Contains (x ∷ xs) x
at_head x xs = (0, omega arith, refl)

behind : {X : Type 0} (x y : X) (xs : List X) → Contains xs y → Contains (x ∷ xs) y
behind x y xs (k, lt, is) = (suc k, omega arith, is)

every : {X : Type 0} (P : X → Type 0) → ((x : X) → OrNot (P x)) → (xs : List X) → OrNot ((x : X) → Contains xs x → P x)
every {X = X} P each [] = inl (λ x at. let lt = at.1 in absurd (omega arith))
every {X = X} P each (x ∷ xs) =
    like joined (λ all. (all x (at_head x xs), λ y at. all y (behind x y xs at))) (both (each x) (every P each xs))
  where
    joined : P x × ((y : X) → Contains xs y → P y) → (y : X) → Contains (x ∷ xs) y → P y
    joined h y at = elim (head_or_rest x y xs at) [
      | inl is ↦ subst P is h.0
      | inr rest ↦ h.1 y rest
    ]

some : {X : Type 0} (P : X → Type 0) → ((x : X) → OrNot (P x)) → (xs : List X) → OrNot ((x : X) × Contains xs x × P x)
some P each [] = inr (λ h. let lt = h.1.1 in absurd (omega arith))
some P each (x ∷ xs) = elim (each x) [
  | inl is ↦ inl (x, at_head x xs, is)
  | inr not_here ↦ elim (some P each xs) [
    | inl found ↦ inl (found.0, behind x found.0 xs found.1, found.2)
    | inr nowhere ↦ inr (λ h. elim (head_or_rest x h.0 xs h.1) [
      | inl is ↦ not_here (subst P (sym is) h.2)
      | inr rest ↦ nowhere (h.0, rest, h.2)
    ])
  ]
]

-- ---- families

must_agree : (mask : List ℕ) (i : ℕ) → OrNot (MustAgree mask i)
must_agree mask i = implied (at_most (suc (i / 8)) (length mask)) (negated (same_number (bit_and (slice_index mask (i / 8)) (2 ^ (7 - i % 8))) 0))

is_match : (f : ViewTreeFamily) (name : List ℕ) → OrNot (IsMatch f name)
is_match f name = like
    (λ h. record { long = h.0; agrees = h.1 })
    (λ m. (m.long, m.agrees))
    (both (at_most (length f.subtree) (length name))
    (below (λ i. MustAgree f.mask i → slice_index name i ≡ slice_index f.subtree i)
    (λ i. implied (must_agree f.mask i) (same_number (slice_index name i) (slice_index f.subtree i))) (length f.subtree)))

applies : (view name : List ℕ) (f : ViewTreeFamily) → OrNot (Applies view name f)
applies view name f = like
    (λ h. record { of_view = h.0; matches = h.1 })
    (λ a. (a.of_view, a.matches))
    (both (same_list f.view_name view) (is_match f name))

module _ (families : List ViewTreeFamily) (view name : List ℕ) where
  -- no family that applies is above it
  abbrev IsGreatest : ViewTreeFamily → Type 0
  IsGreatest f = (other : ViewTreeFamily) → Contains families other → Applies view name other → IsTrue (is_le (subtree_cmp other.subtree f.subtree))

  is_greatest : (f : ViewTreeFamily) → OrNot (IsGreatest f)
  is_greatest f = every (λ other. Applies view name other → IsTrue (is_le (subtree_cmp other.subtree f.subtree)))
      (λ other. implied (applies view name other) (so (is_le (subtree_cmp other.subtree f.subtree)))) families

  -- it decides, if it is listed, and is an included one
  abbrev IsWanted : ViewTreeFamily → Type 0
  IsWanted f = Applies view name f × (IsGreatest f × IsTrue f.included)

  pub decided : OrNot (IsInView families view name)
  decided = like there_is there_was
      (some IsWanted (λ f. both (applies view name f) (both (is_greatest f) (so f.included))) families)
    where
      there_is : ((f : ViewTreeFamily) × Contains families f × IsWanted f) → IsInView families view name
      there_is (f, listed, wanted) = record {
        family = f;
        decides = record { listed = listed; applies = wanted.0; greatest = wanted.1.0 };
        included = wanted.1.1;
      }

      there_was : IsInView families view name → (f : ViewTreeFamily) × Contains families f × IsWanted f
      there_was seen = (seen.family, seen.decides.listed, (seen.decides.applies, (seen.decides.greatest, seen.included)))
