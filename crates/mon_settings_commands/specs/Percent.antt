-- The percentage of an interface's speed that the option --thresholds gives.
use Rattle.std.specs.Prelude.{◌≡◌, ◌≤◌, ◌⊎◌, ◌++◌, ℕ, List, Option, Some, None, codes}
use Rattle.std.specs.Str.Parse.{IsNumeral, digits_value, without_leading_plus}
use Rattle.mon_console.specs.Failure.{IsOfText}
use Rattle.mon_console.specs.declared.failure.Failure.{Failure}

-- a text spells a number from 1 to 100 in decimal digits, after a plus or without one
pub record IsPercentage (text : List ℕ) (n : ℕ) : Type 0 where
  pub digits : IsNumeral 10 (without_leading_plus text)
  pub value : n ≡ digits_value 10 (without_leading_plus text)
  pub low : 1 ≤ n
  pub high : n ≤ 100

-- a text means a percentage: it spells the number, or spells it before a percent sign at its end
abbrev pub MeansPercentage : List ℕ → ℕ → Type 0
MeansPercentage text n = IsPercentage text n ⊎ ((front : List ℕ) × (text ≡ front ++ codes "%")
    × IsPercentage front n)

-- the percentage of an option: the one that its text means, or 0 if it is left out
abbrev pub GivesPercentage : Option (List ℕ) → ℕ → Type 0
GivesPercentage None n = n ≡ 0
GivesPercentage (Some text) n = MeansPercentage text n

-- an option gives some percentage
abbrev pub GivesSome : Option (List ℕ) → Type 0
GivesSome given = (n : ℕ) × GivesPercentage given n

-- the option's text means no percentage, as the failure says
abbrev pub IsNoPercentage : Option (List ℕ) → Failure → Type 0
IsNoPercentage None failure = ⊥
IsNoPercentage (Some text) failure = ((n : ℕ) → ¬ (MeansPercentage text n))
    × IsOfText text (codes "a percentage, 1 to 100,") failure
