-- Lists made by pushing what a function gives of each element.
use Rattle.std.proofs.Common.{◌≡◌, ℕ, ◌+◌, ◌<◌, ◌≤◌, List, [], ◌∷◌, ◌++◌, length, get_or, take, map, sym, ap, ◌∙◌}
use Rattle.std.specs.List.{flat_map}
use Rattle.std.proofs.lemmas.List.{flat_map_more, map_more, take_all, take_more}

module _ {X Y : Type 0} (f : X → Y) (xs : List X) where
  pub one_pushed : (made now : List Y) (i : ℕ) (d : X) (y : Y) → made ≡ map f (take i xs) → i < length xs → now ≡ made ++ y ∷ [] → y ≡ f (get_or xs i d) → now ≡ map f (take (i + 1) xs)
  one_pushed made now i d y before lt pushed is = pushed ∙ (λ k. before k ++ is k ∷ []) ∙ sym (map_more f xs i d lt)

  pub all_pushed : (made : List Y) (i : ℕ) → made ≡ map f (take i xs) → length xs ≤ i → made ≡ map f xs
  all_pushed made i before le = before ∙ ap (map f) (take_all i xs le)

-- one list more is appended, which a function gives of an element
pub one_put : {X Y : Type 0} (f : X → List Y) (xs : List X) (i : ℕ) (d : X) (was now : List Y) → i < length xs → now ≡ was ++ f (get_or xs i d) → was ≡ flat_map f (take i xs)
    → now ≡ flat_map f (take (i + 1) xs)
one_put f xs i d was now lt put before = put ∙ ap (λ l. l ++ f (get_or xs i d)) before ∙ flat_map_more f [] (take i xs) (get_or xs i d) ∙ sym (ap (flat_map f) (take_more xs i d lt))
