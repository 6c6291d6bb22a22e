-- Lists in which no two elements are alike.
use Rattle.std.proofs.Common.{◌≡◌, ℕ, ◌+◌, ◌<◌, List, [], ◌∷◌, ◌++◌, length, take, get_or, Any, AllPairs, sym, ap, ◌∙◌, subst, arith, length-take, get_or-take}
use Rattle.std.proofs.lemmas.List.{take_more, get_or_default}
use Rattle.std.proofs.lemmas.List.Quantifiers.{all_pairs_push}

module _ {X : Type 0} (S : X → X → Type 0) where
  -- x is the next, and none before it is like it
  pub pairs_more : (xs : List X) (i : ℕ) (x : X) → i < length xs → x ≡ get_or xs i x → AllPairs (λ a b. S a b → ⊥) (take i xs) → (Any (λ a. S a x) (take i xs) → ⊥) → AllPairs (λ a b. S a b → ⊥) (take (i + 1) xs)
  pairs_more xs i x within is pairs none =
      subst (AllPairs (λ a b. S a b → ⊥)) (sym (take_more xs i x within ∙ ap (λ y. take i xs ++ y ∷ []) (sym is)))
      (all_pairs_push (λ a b. S a b → ⊥) (take i xs) x pairs
      (λ k d h alike. none (k, get_or (take i xs) k d, h, get_or_default (take i xs) k (get_or (take i xs) k d) d h, alike)))

  -- x is at i, and one before it is like it
  pub twins : (xs : List X) (i : ℕ) (x : X) → i < length xs → x ≡ get_or xs i x → Any (λ a. S a x) (take i xs) → AllPairs (λ a b. S a b → ⊥) xs → ⊥
  twins xs i x within is twin pairs =
      let k = twin.0 in
      let a = twin.1 in
      let before : k < i = omega (arith, twin.2, length-take i xs) in
      let there : k < length xs = omega arith in
      let a_is : get_or xs k x ≡ a = get_or_default xs k x a there ∙ sym (get_or-take i xs k a before) ∙ twin.3 in
      pairs k i x before within (subst (λ (y : X). S y (get_or xs i x)) (sym a_is) (subst (λ (y : X). S a y) is twin.4))
