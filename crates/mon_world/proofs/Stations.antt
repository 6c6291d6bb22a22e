-- Stations in a list, by their numbers.
use Rattle.std.proofs.Common.{ℕ, zero, suc, ◌≡◌, ◌≢◌, ◌<◌, ◌+◌, ◌⊎◌, inl, inr, List, [], ◌∷◌, ◌++◌, length, get_or, Some, refl, ap, subst, arith}
use Rattle.std.specs.Prelude.{slice_get, slice_set}
use Rattle.std.proofs.lemmas.Option.{slice_get_read}
use Rattle.mon_world.specs.Places.{HasNumber}

get_set : {S : Type 0} (xs : List S) (n m : ℕ) (new t : S) → slice_get (slice_set xs n new) m ≡ Some t → ((m ≡ n) × (t ≡ new)) ⊎ ((m ≡ n → ⊥) × (slice_get xs m ≡ Some t))
get_set [] n m new t is = cc
get_set (x ∷ xs) zero zero new t is = inl (refl, cc)
get_set (x ∷ xs) zero (suc m) new t is = inr ((λ e. cc), is)
get_set (x ∷ xs) (suc n) zero new t is = inr ((λ e. cc), is)
get_set (x ∷ xs) (suc n) (suc m) new t is = elim (get_set xs n m new t is) [
  | inl here ↦ inl (ap suc here.0, here.1)
  | inr there ↦ inr ((λ e. there.0 (omega (arith, e))), there.1)
]

-- the station of a number after another took the place of one
pub number_set : {S : Type 0} (xs : List S) (n x : ℕ) (new t : S) → HasNumber (slice_set xs n new) x t → ((x ≡ n + 1) × (t ≡ new)) ⊎ ((x ≢ n + 1) × HasNumber xs x t)
number_set xs n zero new t at = absurd at
number_set xs n (suc m) new t at = elim (get_set xs n m new t at) [
  | inl here ↦ inl (omega (arith, here.0), here.1)
  | inr there ↦ inr ((λ e. there.0 (omega (arith, e))), there.1)
]

pub number_at : {S : Type 0} (xs : List S) (n : ℕ) (t : S) → slice_get xs n ≡ Some t → HasNumber xs (n + 1) t
number_at xs n t at = let next : suc n ≡ n + 1 = omega arith in subst (λ x. HasNumber xs x t) next at

pub get_at : {S : Type 0} (xs : List S) (n : ℕ) (t : S) → n < length xs → t ≡ get_or xs n t → slice_get xs n ≡ Some t
get_at xs n t lt at = slice_get_read xs (length xs) n t refl lt at

set_here : {S : Type 0} (xs : List S) (n : ℕ) (old new : S) → slice_get xs n ≡ Some old → slice_get (slice_set xs n new) n ≡ Some new
set_here [] n old new is = cc
set_here (x ∷ xs) zero old new is = refl
set_here (x ∷ xs) (suc n) old new is = set_here xs n old new is

-- the station that took the place of one
pub number_here : {S : Type 0} (xs : List S) (n : ℕ) (old new : S) → slice_get xs n ≡ Some old → HasNumber (slice_set xs n new) (n + 1) new
number_here xs n old new is = number_at (slice_set xs n new) n new (set_here xs n old new is)

get_push : {S : Type 0} (xs : List S) (new t : S) (k : ℕ) → slice_get (xs ++ new ∷ []) k ≡ Some t → slice_get xs k ≡ Some t ⊎ ((k ≡ length xs) × (t ≡ new))
get_push [] new t zero is = inr (refl, cc)
get_push [] new t (suc k) is = cc
get_push (x ∷ xs) new t zero is = inl is
get_push (x ∷ xs) new t (suc k) is = elim (get_push xs new t k is) [
  | inl before ↦ inl before
  | inr last ↦ inr (ap suc last.0, last.1)
]

-- the station of a number after one more
pub number_push : {S : Type 0} (xs : List S) (new t : S) (x : ℕ) → HasNumber (xs ++ new ∷ []) x t → HasNumber xs x t ⊎ ((x ≡ length xs + 1) × (t ≡ new))
number_push xs new t zero at = absurd at
number_push xs new t (suc k) at = elim (get_push xs new t k at) [
  | inl before ↦ inl before
  | inr last ↦ inr (omega (arith, last.0), last.1)
]
