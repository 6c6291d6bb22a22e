-- Where an instance is in a list.
use Rattle.std.proofs.Common.{◌≡◌, ℕ, ◌<◌, Bool, true, false, cond, List, [], ◌∷◌, refl, sym, ap, subst, ◌∙◌, inl, inr, Option, Some, None, suc, zero, length, arith}
use Rattle.std.specs.Prelude.{IfSome, option_map}
use Rattle.std.specs.Cmp.{eq_by_cmp_equiv}
use Rattle.std.specs.List.{slice_get}
use Rattle.std.specs.List.Sorted.{IsStrictlySortedBy}
use Rattle.std.specs.Ordering.{eq_by_cmp, ordering_reverse}
use Rattle.std.specs.declared.cmp.Ordering.TheVariants.{Less, Greater}
use Rattle.std.proofs.lemmas.Bool.{cases_order, true≢false}
use Rattle.std.proofs.lemmas.List.{length-map}
use Rattle.std.proofs.lemmas.Map.Keys.{Less-from_sorted}
use Rattle.std.proofs.lemmas.Map.Views.{tells_apart}
use Rattle.std.proofs.lemmas.Option.{get_or_from_slice_get, slice_get_within}
use Rattle.mon_board.proofs.Promised.{instance_cmp_total, instance_cmp-IsAntisymmetric}
use Rattle.mon_board.specs.Instance.{instance_cmp, instances_of}
use Rattle.mon_board.specs.declared.instance.Watched.{Watched}
use Rattle.mon_board.specs.declared.instance.Instance.{Instance}
use Rattle.mon_carry.specs.Carried.{place_of}

abbrev same : Instance → Instance → Bool
same x y = eq_by_cmp instance_cmp x y

same_itself : (x : Instance) → same x x ≡ true
same_itself x = (eq_by_cmp_equiv instance_cmp_total).refl x

-- what is at its place is the instance
pub place_is : (x : Instance) (ys : List Instance) (i : ℕ) → place_of x ys ≡ Some i → slice_get ys i ≡ Some x
place_is x [] i is = absurd cc
place_is x (y ∷ ys) i is = at (place_is x ys) (same x y) refl is
  where
    next : ((j : ℕ) → place_of x ys ≡ Some j → slice_get ys j ≡ Some x) → (r : Option ℕ) → place_of x ys ≡ r → option_map suc r ≡ Some i → slice_get (y ∷ ys) i ≡ Some x
    next rest None e h = absurd cc
    next rest (Some j) e h = let place : suc j ≡ i = cc in subst (λ (k : ℕ). slice_get (y ∷ ys) k ≡ Some x) place (rest j e)

    at : ((j : ℕ) → place_of x ys ≡ Some j → slice_get ys j ≡ Some x) → (t : Bool) → same x y ≡ t → cond t (Some 0) (option_map suc (place_of x ys)) ≡ Some i → slice_get (y ∷ ys) i ≡ Some x
    at rest true e h =
        let place : 0 ≡ i = cc in
        subst (λ (k : ℕ). slice_get (y ∷ ys) k ≡ Some x) place (ap Some (sym (tells_apart instance_cmp-IsAntisymmetric x y e)))
    at rest false e h = next rest (place_of x ys) refl h

-- what is in a list has a place there
pub place_there : (x : Instance) (ys : List Instance) (i : ℕ) → slice_get ys i ≡ Some x → place_of x ys ≡ None → ⊥
place_there x [] i is none = absurd cc
place_there x (y ∷ ys) i is none = at (place_there x ys) (same x y) refl i is none
  where
    next : (r : Option ℕ) → place_of x ys ≡ r → option_map suc r ≡ None → place_of x ys ≡ None
    next None e h = e
    next (Some j) e h = absurd cc

    first : (i : ℕ) → slice_get (y ∷ ys) i ≡ Some x → same x y ≡ false → ((j : ℕ) → slice_get ys j ≡ Some x → ⊥) → ⊥
    first zero is e rest = let own : y ≡ x = cc in true≢false (sym (same_itself x) ∙ ap (same x) (sym own) ∙ e)
    first (suc j) is e rest = rest j is

    at : ((j : ℕ) → slice_get ys j ≡ Some x → place_of x ys ≡ None → ⊥) → (t : Bool) → same x y ≡ t → (i : ℕ) → slice_get (y ∷ ys) i ≡ Some x
        → cond t (Some 0) (option_map suc (place_of x ys)) ≡ None → ⊥
    at rest true e i is h = absurd cc
    at rest false e i is h = first i is e (λ j there. rest j there (next (place_of x ys) refl h))

-- a search that finds the instance, and no other place of it, is its place
pub search_is : (x : Instance) (ys : List Instance) (r : Option ℕ) → IfSome r (λ k. slice_get ys k ≡ Some x) → ((i : ℕ) → slice_get ys i ≡ Some x → r ≡ Some i) → r ≡ place_of x ys
search_is x ys r found only = at (place_of x ys) refl r found only
  where
    at : (p : Option ℕ) → place_of x ys ≡ p → (r : Option ℕ) → IfSome r (λ k. slice_get ys k ≡ Some x) → ((i : ℕ) → slice_get ys i ≡ Some x → r ≡ Some i) → r ≡ place_of x ys
    at (Some k) e r found only = only k (place_is x ys k e) ∙ sym e
    at None e None found only = sym e
    at None e (Some k) found only = absurd (place_there x ys k found e)

-- what it finds is within the list
pub found_within : (ws : List Watched) (x : Instance) (r : Option ℕ) → IfSome r (λ k. slice_get (instances_of ws) k ≡ Some x) → IfSome r (λ k. k < length ws)
found_within ws x None found = tt
found_within ws x (Some k) found = omega (arith, slice_get_within (instances_of ws) k x found, length-map ws (λ (w : Watched). w.instance))

-- ---- among rising instances each has one place
not_below_itself : (x : Instance) → instance_cmp x x ≡ Less → ⊥
not_below_itself x h = let turned : Less ≡ Greater = sym h ∙ instance_cmp_total.antisymm x x ∙ ap ordering_reverse h in cc

module _ (xs : List Instance) (sorted : IsStrictlySortedBy instance_cmp xs) (x : Instance) where
  not_twice : (i j : ℕ) → slice_get xs i ≡ Some x → slice_get xs j ≡ Some x → i < j → ⊥
  not_twice i j first second lt =
      let below = Less-from_sorted instance_cmp xs i j x sorted lt (slice_get_within xs j x second) in
      not_below_itself x (sym (λ k. instance_cmp (get_or_from_slice_get xs i x x first k) (get_or_from_slice_get xs j x x second k)) ∙ below)

  one_place : (i j : ℕ) → slice_get xs i ≡ Some x → slice_get xs j ≡ Some x → i ≡ j
  one_place i j first second = elim (cases_order i j) [
    | inl even ↦ even
    | inr (inl lt) ↦ absurd (not_twice i j first second lt)
    | inr (inr gt) ↦ absurd (not_twice j i second first gt)
  ]

  pub own_place : (i : ℕ) → slice_get xs i ≡ Some x → place_of x xs ≡ Some i
  own_place i is = sym (search_is x xs (Some i) is (λ j other. ap (λ (m : ℕ). Some m) (one_place i j is other)))
