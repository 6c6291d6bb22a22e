-- A binary search of the samples of a window, and of marked samples.
use Rattle.std.proofs.Common.{◌≡◌, ℕ, ◌≤◌, true, false, List, length, get_or, sym, ap, ◌∙◌, subst, arith, Result, Ok, Err}
use Rattle.std.specs.Cmp.{nat_cmp_total}
use Rattle.std.specs.FinSet as finset
use Rattle.std.specs.FinSet.{nat_cmp-IsAntisymmetric}
use Rattle.std.specs.List.Sorted.{IsStrictlySortedBy, IsBinarySearchResult, IsSearchInRange}
use Rattle.std.specs.Ordering.{nat_cmp}
use Rattle.std.specs.Result.{IfOk, IfErr}
use Rattle.std.proofs.lemmas.List.{length-map}
use Rattle.mon_window.specs.Place.{IsPlace}
use Rattle.mon_window.specs.Top.{rising}
use Rattle.mon_window.specs.Window.{Samples}
use Rattle.mon_window.proofs.Promised.{sorted-rising, from_list-rising, search_finds, search_places}
use Rattle.mon_board.specs.Marks.{samples_in}
use Rattle.mon_board.proofs.Search.{absent_mapped}

module _ (window : Samples) (s : ℕ) (xs : List ℕ) (at : ℕ) (is : xs ≡ rising window) where
  abbrev sorted : IsStrictlySortedBy nat_cmp xs
  sorted = subst (IsStrictlySortedBy nat_cmp) (sym is) (sorted-rising nat_cmp_total nat_cmp-IsAntisymmetric window)

  all_in : finset.from_list xs ≡ window
  all_in = ap (λ (l : List ℕ). finset.from_list {R = nat_cmp} l) is ∙ from_list-rising nat_cmp_total nat_cmp-IsAntisymmetric window

  pub stands : IsSearchInRange (Ok at) (length xs) → IsBinarySearchResult (λ y. nat_cmp y s) xs (Ok at) → finset.contains window s ≡ true
  stands bound found = ap (λ (a : Samples). finset.contains a s) (sym all_in) ∙ search_finds nat_cmp_total nat_cmp-IsAntisymmetric s xs (Ok at) sorted bound found

  pub stands_not : IsSearchInRange (Err at) (length xs) → IsBinarySearchResult (λ y. nat_cmp y s) xs (Err at) → finset.contains window s ≡ false
  stands_not bound found =
      let place = search_places nat_cmp_total nat_cmp-IsAntisymmetric s xs (Err at) sorted bound found in
      ap (λ (a : Samples). finset.contains a s) (sym all_in) ∙ place.absent

module _ (xs : List (ℕ × ℕ)) (s at : ℕ) where
  as_long : length (samples_in xs) ≡ length xs
  as_long = length-map xs (λ (x : ℕ × ℕ). x.0)

  pub found_at : IsBinarySearchResult (λ x. nat_cmp x.0 s) xs (Ok at) → (d : ℕ × ℕ) → (get_or xs at d).0 ≡ s
  found_at found d = nat_cmp-IsAntisymmetric _ s (found d)

  pub placed_at : IsStrictlySortedBy nat_cmp (samples_in xs) → IsSearchInRange (Err at) (length xs) → IsBinarySearchResult (λ x. nat_cmp x.0 s) xs (Err at) → IsPlace nat_cmp (samples_in xs) s at
  placed_at sorted bound found =
      let few : at ≤ length (samples_in xs) = omega (arith, as_long) in
      search_places nat_cmp_total nat_cmp-IsAntisymmetric s (samples_in xs) (Err at) sorted few (absent_mapped (λ (x : ℕ × ℕ). x.0) (λ y. nat_cmp y s) xs at found bound)

pub if_found : (xs : List (ℕ × ℕ)) (s : ℕ) (r : Result ℕ ℕ) → IsBinarySearchResult (λ x. nat_cmp x.0 s) xs r → IfOk r (λ at. (d : ℕ × ℕ) → (get_or xs at d).0 ≡ s)
if_found xs s (Ok at) found = found_at xs s at found
if_found xs s (Err at) found = tt

pub if_placed : (xs : List (ℕ × ℕ)) (s : ℕ) (r : Result ℕ ℕ) → IsStrictlySortedBy nat_cmp (samples_in xs) → IsSearchInRange r (length xs) → IsBinarySearchResult (λ x. nat_cmp x.0 s) xs r
    → IfErr r (IsPlace nat_cmp (samples_in xs) s)
if_placed xs s (Ok at) rises bound found = tt
if_placed xs s (Err at) rises bound found = placed_at xs s at rises bound found
