-- A binary search of what is watched, by its instance.
use Rattle.std.proofs.Common.{◌≡◌, ℕ, ◌<◌, ◌≤◌, List, [], ◌∷◌, length, get_or, map, ap, sym, subst, ◌∙◌, arith, Ok, Err, Option, Some, None, Contains, inl, inr}
use Rattle.std.specs.Prelude.{IfSome, IfNone}
use Rattle.std.specs.declared.cmp.Ordering.{Ordering}
use Rattle.std.specs.declared.cmp.Ordering.TheVariants.{Less, Greater}
use Rattle.std.specs.Cmp.{eq_by_cmp_equiv}
use Rattle.std.specs.FinSet.{contains-from_list}
use Rattle.std.specs.List.{slice_get}
use Rattle.std.specs.Ordering.{ordering_index, ordering_reverse}
use Rattle.std.specs.List.Sorted.{IsStrictlySortedBy, IsBinarySearchResult, IsSearchInRange, IsNonDecreasingBy}
use Rattle.std.proofs.lemmas.Bool.{cases_order, true≢false}
use Rattle.std.proofs.lemmas.List.{get_or-map, length-map}
use Rattle.std.proofs.lemmas.List.Elements.{Contains-get_or}
use Rattle.std.proofs.lemmas.Map.Keys.{Less-from_sorted}
use Rattle.std.proofs.lemmas.Map.Views.{list_any-from_Contains}
use Rattle.std.proofs.lemmas.Option.{get_or_from_slice_get, slice_get_within, slice_get-get_or}
use Rattle.mon_window.proofs.Promised.{search_places}
use Rattle.mon_board.specs.declared.instance.Instance.{Instance}
use Rattle.mon_board.specs.declared.instance.Watched.{Watched}
use Rattle.mon_board.specs.Instance.{instance_cmp, instances_of}
use Rattle.mon_board.proofs.Order.{instance_cmp_total, instance_cmp-IsAntisymmetric}

module _ {X K : Type 0} (f : X → K) (ord : K → Ordering) where
  rises_too : (xs : List X) → IsNonDecreasingBy (λ y. ordering_index (ord y)) (map f xs) → IsNonDecreasingBy (λ y. ordering_index (ord (f y))) xs
  rises_too xs rises a b d le lt =
      let low : a < length xs = omega arith in
      let up : b < length (map f xs) = omega (arith, length-map xs f) in
      let p : ordering_index (ord (get_or (map f xs) a (f d))) ≡ ordering_index (ord (f (get_or xs a d))) = ap (λ z. ordering_index (ord z)) (get_or-map f xs a d (f d) low) in
      let q : ordering_index (ord (get_or (map f xs) b (f d))) ≡ ordering_index (ord (f (get_or xs b d))) = ap (λ z. ordering_index (ord z)) (get_or-map f xs b d (f d) lt) in
      let h : ordering_index (ord (get_or (map f xs) a (f d))) ≤ ordering_index (ord (get_or (map f xs) b (f d))) = rises a b (f d) le up in
      omega arith

  -- what a search by the part does not find a search of the parts would not find
  pub absent_mapped : (xs : List X) (i : ℕ) → IsBinarySearchResult (λ y. ord (f y)) xs (Err i) → IsSearchInRange (Err i) (length xs) → IsBinarySearchResult ord (map f xs) (Err i)
  absent_mapped [] i found bound = λ rises. (λ k e low high. absurd (omega arith), λ k e low high. absurd (omega arith))
  absent_mapped (x ∷ xs) i found bound = λ rises.
      let parts = found (rises_too (x ∷ xs) rises) in (
        λ k e low high. let lt : k < length (x ∷ xs) = omega arith in ap ord (get_or-map f (x ∷ xs) k x e lt) ∙ parts.0 k x low high,
        λ k e low high. let lt : k < length (x ∷ xs) = omega (arith, length-map (x ∷ xs) f) in ap ord (get_or-map f (x ∷ xs) k x e lt) ∙ parts.1 k x low lt,
      )

-- what it finds is the instance
pub found : (xs : List Watched) (i : Instance) (at : ℕ) → at < length xs → IsBinarySearchResult (λ w. instance_cmp w.instance i) xs (Ok at) → slice_get (instances_of xs) at ≡ Some i
found [] i at lt is = absurd (omega arith)
found (x ∷ xs) i at lt is =
    let mapped : at < length (instances_of (x ∷ xs)) = omega (arith, length-map (x ∷ xs) (λ (w : Watched). w.instance)) in
    slice_get-get_or (instances_of (x ∷ xs)) at x.instance mapped
    ∙ ap Some (get_or-map (λ (w : Watched). w.instance) (x ∷ xs) at x x.instance lt ∙ instance_cmp-IsAntisymmetric _ i (is x))

-- where it finds none, the instance is not watched
pub absent : (xs : List Watched) (i : Instance) (at : ℕ) → IsStrictlySortedBy instance_cmp (instances_of xs) → IsSearchInRange (Err at) (length xs)
    → IsBinarySearchResult (λ w. instance_cmp w.instance i) xs (Err at) → Contains (instances_of xs) i → ⊥
absent xs i at sorted bound is there =
    let few : at ≤ length (instances_of xs) = omega (arith, length-map xs (λ (w : Watched). w.instance)) in
    let place = search_places instance_cmp_total instance_cmp-IsAntisymmetric i (instances_of xs) (Err at) sorted few (absent_mapped (λ (w : Watched). w.instance) (λ j. instance_cmp j i) xs at is bound) in
    true≢false (sym (list_any-from_Contains (eq_by_cmp_equiv instance_cmp_total) i (instances_of xs) there) ∙ (sym (contains-from_list instance_cmp_total (instances_of xs) i) ∙ place.absent))

-- ---- an instance is once among rising ones
not_below_itself : (x : Instance) → instance_cmp x x ≡ Less → ⊥
not_below_itself x h = let turned : Less ≡ Greater = sym h ∙ instance_cmp_total.antisymm x x ∙ ap ordering_reverse h in cc

module _ (xs : List Instance) (sorted : IsStrictlySortedBy instance_cmp xs) (x : Instance) where
  not_twice : (i j : ℕ) → slice_get xs i ≡ Some x → slice_get xs j ≡ Some x → i < j → ⊥
  not_twice i j first second lt =
      let below = Less-from_sorted instance_cmp xs i j x sorted lt (slice_get_within xs j x second) in
      not_below_itself x (sym (λ k. instance_cmp (get_or_from_slice_get xs i x x first k) (get_or_from_slice_get xs j x x second k)) ∙ below)

  one_number : (i j : ℕ) → slice_get xs i ≡ Some x → slice_get xs j ≡ Some x → i ≡ j
  one_number i j first second = elim (cases_order i j) [
    | inl same ↦ same
    | inr (inl lt) ↦ absurd (not_twice i j first second lt)
    | inr (inr gt) ↦ absurd (not_twice j i second first gt)
  ]

  pub only_number : (r : Option ℕ) → IfSome r (λ k. slice_get xs k ≡ Some x) → IfNone r (¬ (Contains xs x)) → (i : ℕ) → slice_get xs i ≡ Some x → r ≡ Some i
  only_number (Some k) found absent i is = ap (λ (m : ℕ). Some m) (one_number k i found is)
  only_number None found absent i is = absurd (absent (subst (Contains xs) (get_or_from_slice_get xs i x x is) (Contains-get_or xs i x (slice_get_within xs i x is))))
