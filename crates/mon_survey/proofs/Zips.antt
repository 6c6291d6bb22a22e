-- What holds of two lists place by place.
use Rattle.std.proofs.Common.{zero, suc, ◌≡◌, ◌≢◌, ℕ, ◌+◌, ◌<◌, ◌≤◌, ◌⊎◌, inl, inr, Bool, true, false, IsTrue, List, [], ◌∷◌, length, get_or, refl, sym, subst, ◌∙◌, arith}
use Rattle.std.specs.List.{AllZip}
use Rattle.std.proofs.lemmas.Bool.{cases_lt, false≢true}
use Rattle.std.proofs.lemmas.List.{get_or_default}

module _ {A B : Type 0} (R : A → B → Type 0) where
  pub zipped : (xs : List A) (ys : List B) → length xs ≡ length ys → ((k : ℕ) (d : A) (e : B) → k < length xs → R (get_or xs k d) (get_or ys k e)) → AllZip R xs ys
  zipped [] [] long each = tt
  zipped [] (y ∷ ys) long each = absurd (omega arith)
  zipped (x ∷ xs) [] long each = absurd (omega arith)
  zipped (x ∷ xs) (y ∷ ys) long each = (each zero x y (omega arith), zipped xs ys (omega arith) (λ k d e lt. each (suc k) d e (omega arith)))

  pub at_place : (xs : List A) (ys : List B) → AllZip R xs ys → (k : ℕ) (d : A) (e : B) → k < length xs → R (get_or xs k d) (get_or ys k e)
  at_place [] [] all k d e lt = absurd (omega arith)
  at_place [] (y ∷ ys) all k d e lt = absurd all
  at_place (x ∷ xs) [] all k d e lt = absurd all
  at_place (x ∷ xs) (y ∷ ys) all zero d e lt = all.0
  at_place (x ∷ xs) (y ∷ ys) all (suc k) d e lt = at_place xs ys all.1 k d e (omega arith)

  pub as_long : (xs : List A) (ys : List B) → AllZip R xs ys → length xs ≡ length ys
  as_long [] [] all = omega arith
  as_long [] (y ∷ ys) all = absurd all
  as_long (x ∷ xs) [] all = absurd all
  as_long (x ∷ xs) (y ∷ ys) all = let rest : length xs ≡ length ys = as_long xs ys all.1 in omega arith

  -- lists of other lengths do not agree
  pub not_as_long : (xs : List A) (ys : List B) → length xs ≢ length ys → (IsTrue false → AllZip R xs ys) × (AllZip R xs ys → IsTrue false)
  not_as_long xs ys other = (λ f. absurd (false≢true f), λ all. absurd (other (as_long xs ys all)))

  -- nor do lists that differ at a place
  pub not_at_place : (xs : List A) (ys : List B) (k : ℕ) (d : A) (e : B) → k < length xs → ¬ (R (get_or xs k d) (get_or ys k e))
      → (IsTrue false → AllZip R xs ys) × (AllZip R xs ys → IsTrue false)
  not_at_place xs ys k d e lt differ = (λ f. absurd (false≢true f), λ all. absurd (differ (at_place xs ys all k d e lt)))

  -- lists that agree at each place
  pub each_place : (xs : List A) (ys : List B) → length xs ≡ length ys → ((k : ℕ) (d : A) (e : B) → k < length xs → R (get_or xs k d) (get_or ys k e))
      → (IsTrue true → AllZip R xs ys) × (AllZip R xs ys → IsTrue true)
  each_place xs ys long each = (λ _. zipped xs ys long each, λ _. refl)

  -- one place more at which they agree
  pub one_more : (xs : List A) (ys : List B) (n : ℕ) (d : A) (e : B) → length xs ≡ length ys → n < length xs → ((k : ℕ) (d : A) (e : B) → k < n → R (get_or xs k d) (get_or ys k e)) → R (get_or xs n d) (get_or ys n e)
      → (k : ℕ) (d : A) (e : B) → k < n + 1 → R (get_or xs k d) (get_or ys k e)
  one_more xs ys n d e long lt before here k a b less = by_place (cases_lt k n)
    where
      moved : k ≡ n → R (get_or xs k a) (get_or ys k b)
      moved same = subst (λ m. R (get_or xs m a) (get_or ys m b)) (sym same)
          (subst (λ y. R (get_or xs n a) y) (get_or_default ys n e b (omega arith)) (subst (λ x. R x (get_or ys n e)) (get_or_default xs n d a lt) here))

      by_place : (k < n) ⊎ (n ≤ k) → R (get_or xs k a) (get_or ys k b)
      by_place (inl low) = before k a b low
      by_place (inr high) = moved (omega arith)

  -- a test that fails at a place refutes them
  pub not_here : (xs : List A) (ys : List B) (n : ℕ) (d : A) (e : B) (x : A) (y : B) (r : Bool) → length xs ≡ length ys → n < length ys → x ≡ get_or xs n d → y ≡ get_or ys n e
      → (IsTrue r → R x y) × (R x y → IsTrue r) → r ≡ false → (IsTrue false → AllZip R xs ys) × (AllZip R xs ys → IsTrue false)
  not_here xs ys n d e x y r long lt is_x is_y test failed =
      not_at_place xs ys n d e (omega arith) (λ at. absurd (false≢true (sym failed ∙ test.1 (subst (λ a. R a y) (sym is_x) (subst (λ b. R (get_or xs n d) b) (sym is_y) at)))))

  -- a test that passes at a place is one place more at which they agree
  pub more_here : (xs : List A) (ys : List B) (n : ℕ) (d : A) (e : B) (x : A) (y : B) (r : Bool) → length xs ≡ length ys → n < length ys → x ≡ get_or xs n d → y ≡ get_or ys n e
      → (IsTrue r → R x y) × (R x y → IsTrue r) → r ≡ true → ((k : ℕ) (d : A) (e : B) → k < n → R (get_or xs k d) (get_or ys k e))
      → (k : ℕ) (d : A) (e : B) → k < n + 1 → R (get_or xs k d) (get_or ys k e)
  more_here xs ys n d e x y r long lt is_x is_y test passed before =
      one_more xs ys n d e long (omega arith) before (subst (λ a. R a (get_or ys n e)) is_x (subst (λ b. R x b) is_y (test.0 passed)))
