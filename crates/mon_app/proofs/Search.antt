-- A binary search by a part of each element.
use Rattle.std.proofs.Common.{◌≡◌, ℕ, ◌<◌, ◌≤◌, List, [], ◌∷◌, length, get_or, map, ap, ◌∙◌, arith, Result, Ok, Err}
use Rattle.std.specs.declared.cmp.Ordering.{Ordering}
use Rattle.std.specs.Ordering.{ordering_index}
use Rattle.std.specs.List.Sorted.{IsStrictlySortedBy, IsBinarySearchResult, IsSearchInRange, IsNonDecreasingBy}
use Rattle.std.proofs.lemmas.List.{get_or-map, length-map}
use Rattle.mon_window.proofs.Promised.{search_places}
use Rattle.mon_board.specs.declared.instance.Instance.{Instance}
use Rattle.mon_board.specs.Instance.{instance_cmp}
use Rattle.mon_app.specs.Find.{StandsAt}
use Rattle.mon_board.proofs.Promised.{instance_cmp_total, instance_cmp-IsAntisymmetric}

module _ {X K : Type 0} (f : X → K) (ord : K → Ordering) where
  rises_too : (xs : List X) → IsNonDecreasingBy (λ y. ordering_index (ord y)) (map f xs) → IsNonDecreasingBy (λ y. ordering_index (ord (f y))) xs
  rises_too xs rises a b d le lt =
      let low : a < length xs = omega arith in
      let up : b < length (map f xs) = omega (arith, length-map xs f) in
      let p : ordering_index (ord (get_or (map f xs) a (f d))) ≡ ordering_index (ord (f (get_or xs a d))) = ap (λ z. ordering_index (ord z)) (get_or-map f xs a d (f d) low) in
      let q : ordering_index (ord (get_or (map f xs) b (f d))) ≡ ordering_index (ord (f (get_or xs b d))) = ap (λ z. ordering_index (ord z)) (get_or-map f xs b d (f d) lt) in
      let h : ordering_index (ord (get_or (map f xs) a (f d))) ≤ ordering_index (ord (get_or (map f xs) b (f d))) = rises a b (f d) le up in
      omega arith

  mapped_from : (x : X) (xs : List X) (r : Result ℕ ℕ) → IsSearchInRange r (length xs) → IsBinarySearchResult (λ y. ord (f y)) xs r → IsBinarySearchResult ord (map f xs) r
  mapped_from x xs (Ok i) bound found = λ e. ap ord (get_or-map f xs i x e bound) ∙ found x
  mapped_from x xs (Err i) bound found = λ rises.
      let parts = found (rises_too xs rises) in (
        λ k e low high. let lt : k < length xs = omega arith in ap ord (get_or-map f xs k x e lt) ∙ parts.0 k x low high,
        λ k e low high. let lt : k < length xs = omega (arith, length-map xs f) in ap ord (get_or-map f xs k x e lt) ∙ parts.1 k x low lt,
      )

  -- what a search by the part finds is what a search of the parts would find
  pub search_mapped : (xs : List X) (r : Result ℕ ℕ) → IsSearchInRange r (length xs) → IsBinarySearchResult (λ y. ord (f y)) xs r → IsBinarySearchResult ord (map f xs) r
  search_mapped [] (Ok i) bound found = absurd (omega arith)
  search_mapped [] (Err i) bound found = λ rises. (λ k e low high. absurd (omega arith), λ k e low high. absurd (omega arith))
  search_mapped (x ∷ xs) r bound found = mapped_from x (x ∷ xs) r bound found

range_mapped : {X K : Type 0} (f : X → K) (xs : List X) (r : Result ℕ ℕ) → IsSearchInRange r (length xs) → IsSearchInRange r (length (map f xs))
range_mapped f xs (Ok i) bound = omega (arith, length-map xs f)
range_mapped f xs (Err i) bound = omega (arith, length-map xs f)

pub finds : {X : Type 0} (f : X → Instance) (i : Instance) (xs : List X) (r : Result ℕ ℕ) → IsStrictlySortedBy instance_cmp (map f xs)
    → IsSearchInRange r (length xs) → IsBinarySearchResult (λ y. instance_cmp (f y) i) xs r → StandsAt (map f xs) i r
finds f i xs (Ok at) sorted bound found = λ d. instance_cmp-IsAntisymmetric _ i (search_mapped f (λ j. instance_cmp j i) xs (Ok at) bound found d)
finds f i xs (Err at) sorted bound found =
    search_places instance_cmp_total instance_cmp-IsAntisymmetric i (map f xs) (Err at) sorted (range_mapped f xs (Err at) bound) (search_mapped f (λ j. instance_cmp j i) xs (Err at) bound found)
