-- Changes of troubles, one after another.
use Rattle.std.proofs.Common.{◌≡◌, ◌<◌, ◌+◌, ℕ, List, [], ◌∷◌, ◌++◌, length, take, get_or, sym, ap, ◌∙◌, arith, append_assoc, length-take}
use Rattle.std.proofs.lemmas.List.{append-nil, take_more}
use Rattle.mon_rounds.specs.declared.changes.Change.{Change}
use Rattle.mon_rounds.specs.Changes.{changes_by}

module _ {A : Type 0} (change : ℕ → A → A → List Change) (nothing : A) (said : List A) where
  -- the change of the one of this number, where this is so of it
  abbrev one : ℕ → A → List Change
  one n is = change n (get_or said n nothing) is

  changes_push : (n : ℕ) (xs : List A) (x : A) → changes_by change nothing n said (xs ++ x ∷ []) ≡ changes_by change nothing n said xs ++ one (n + length xs) x
  changes_push n [] x = append-nil (one n x) ∙ ap (λ k. one k x) (omega arith)
  changes_push n (z ∷ xs) x =
      let at : n + 1 + length xs ≡ n + length (z ∷ xs) = omega arith in
      ap (λ l. one n z ++ l) (changes_push (n + 1) xs x ∙ ap (λ k. changes_by change nothing (n + 1) said xs ++ one k x) at)
      ∙ sym (append_assoc (one n z) (changes_by change nothing (n + 1) said xs) (one (n + length (z ∷ xs)) x))

  changes_more : (is : List A) (i : ℕ) (d : A) → i < length is → changes_by change nothing 0 said (take (i + 1) is) ≡ changes_by change nothing 0 said (take i is) ++ one i (get_or is i d)
  changes_more is i d lt =
      let long : length (take i is) ≡ i = grind (arith, length-take) in
      ap (changes_by change nothing 0 said) (take_more is i d lt)
      ∙ changes_push 0 (take i is) (get_or is i d)
      ∙ ap (λ k. changes_by change nothing 0 said (take i is) ++ one k (get_or is i d)) (omega (arith, long))

  -- those up to i, and the one of i
  pub changes_step : (before : List Change) (is : List A) (i : ℕ) (d : A) (was now : List Change) → i < length is
      → now ≡ was ++ one i (get_or is i d) → was ≡ before ++ changes_by change nothing 0 said (take i is) → now ≡ before ++ changes_by change nothing 0 said (take (i + 1) is)
  changes_step before is i d was now lt more so_far =
      more ∙ ap (λ l. l ++ one i (get_or is i d)) so_far ∙ append_assoc before (changes_by change nothing 0 said (take i is)) (one i (get_or is i d))
      ∙ ap (λ l. before ++ l) (sym (changes_more is i d lt))
