-- One after the other.
use Rattle.std.specs.Prelude.{◌≡◌, List, ℕ, [], ◌∷◌, ◌++◌}

-- these octets, all of them, spell these things one after the other
abbrev pub AreSpelled : {A : Type 0} → (List ℕ → A → Type 0) → List ℕ → List A → Type 0
AreSpelled S bytes [] = bytes ≡ []
AreSpelled S bytes (x ∷ xs) = (first : List ℕ) × (others : List ℕ) × (bytes ≡ first ++ others)
    × S first x × AreSpelled S others xs
