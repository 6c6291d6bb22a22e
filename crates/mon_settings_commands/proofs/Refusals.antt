-- The first of some words that is bad.
use Rattle.std.proofs.Common.{◌≡◌, ◌+◌, ◌<◌, ◌≤◌, ◌∙◌, ℕ, zero, suc, List, [], ◌∷◌, All, ap, arith, get_or, inl, inr, length, map, subst, sym, take}
use Rattle.std.proofs.lemmas.List.{map-append, take_all, take_more}
use Rattle.std.proofs.lemmas.List.Elements.{All-head, All-push, All-tail}
use Rattle.mon_console.specs.declared.failure.Failure.{Failure}
use Rattle.mon_settings_commands.specs.Refused.{IsFirstBad}

module _ (Good : List ℕ → Type 0) (Bad : List ℕ → Failure → Type 0) where
  pub first_bad : (words : List (List ℕ)) (i : ℕ) (word : List ℕ) (failure : Failure) → i < length words → word ≡ get_or words i word → All Good (take i words) → Bad word failure
      → IsFirstBad Good Bad words failure
  first_bad [] i word failure inside is good bad = absurd (omega (arith, inside))
  first_bad (x ∷ xs) zero word failure inside is good bad = inl (subst (λ (w : List ℕ). Bad w failure) is bad)
  first_bad (x ∷ xs) (suc i) word failure inside is good bad =
      inr (All-head Good x (take i xs) good, first_bad xs i word failure (omega (arith, inside)) is (All-tail Good x (take i xs) good) bad)

module _ {X : Type 0} (text : X → List ℕ) (Good : List ℕ → Type 0) where
  -- one good text more
  pub one_good : (xs : List X) (i : ℕ) (d : X) → i < length xs → All Good (map text (take i xs)) → Good (text (get_or xs i d)) → All Good (map text (take (i + 1) xs))
  one_good xs i d inside good is =
      subst (λ (ws : List (List ℕ)). All Good ws) (sym (ap (λ l. map text l) (take_more xs i d inside) ∙ map-append text (take i xs) (get_or xs i d ∷ [])))
      (All-push Good (map text (take i xs)) (text (get_or xs i d)) good is)

  pub all_good : (xs : List X) (i : ℕ) → length xs ≤ i → All Good (map text (take i xs)) → All Good (map text xs)
  all_good xs i past good = subst (λ (l : List X). All Good (map text l)) (take_all i xs past) good

  pub bad_at : (Bad : List ℕ → Failure → Type 0) (xs : List X) (i : ℕ) (d : X) (failure : Failure) → i < length xs → All Good (map text (take i xs)) → Bad (text (get_or xs i d)) failure
      → IsFirstBad Good Bad (map text xs) failure
  bad_at Bad [] i d failure inside good bad = absurd (omega (arith, inside))
  bad_at Bad (x ∷ xs) zero d failure inside good bad = inl bad
  bad_at Bad (x ∷ xs) (suc i) d failure inside good bad =
      inr (All-head Good (text x) (map text (take i xs)) good, bad_at Bad xs i d failure (omega (arith, inside)) (All-tail Good (text x) (map text (take i xs)) good) bad)
