-- Lines on standard error, with their levels.
use Rattle.std.specs.Prelude.{◌≡◌, ℕ, List, [], ◌∷◌, IfSome, Option, Some, None}
use Rattle.mon_host.specs.AtHost.{AtHost, Noted}
use Rattle.mon_host.specs.declared.level.Level.{Level}

-- A line, with its octets; or with none if its text is not stated, since a fault's words are in it.
pub record Line : Type 0 where
  pub level : Level
  pub text : Option (List ℕ)

-- a line of these octets
abbrev pub stated : Level → List ℕ → Line
stated level text = record { level = level; text = Some text }

-- a line whose text is not stated
abbrev pub unstated : Level → Line
unstated level = record { level = level; text = None }

-- a line was sent to standard error
abbrev pub noted : Level × List ℕ → AtHost
noted line = Noted line.0 line.1

-- Lines were sent to standard error, one after another: each has its level and its octets, or some
-- octets if its text is not stated.
abbrev pub AreNoted : List Line → List AtHost → Type 0
AreNoted [] log = log ≡ []
AreNoted (line ∷ lines) log = (octets : List ℕ) × (rest : List AtHost)
    × IfSome line.text (λ t. octets ≡ t) × AreNoted lines rest
    × (log ≡ Noted line.level octets ∷ rest)
