-- What `station --check` prints.
use Rattle.std.specs.Prelude.{◌≡◌, ℕ, IsErrAnd, List, [], ◌∷◌, Option, Result, Ok, codes}
use Rattle.std.specs.Prelude.{string_bytes}
use Rattle.mon_cli.specs.declared.meaning.Printed.{Printed}
use Rattle.mon_console.specs.Failure.{IsOfText}
use Rattle.mon_console.specs.Files.{IsPrint}
use Rattle.mon_console.specs.Labelled.{IsLabelled}
use Rattle.mon_console.specs.declared.failure.Failure.{Failure}
use Rattle.mon_host.specs.AtHost.{AtHost}
use Rattle.mon_host.specs.Then.{Quietly, Then}
use Rattle.mon_settings.specs.declared.station.StationSettings.{StationSettings}
use Rattle.mon_station_commands.specs.Limits.{limits_text}
use Rattle.mon_file_commands.specs.Steps.{OrMemory}

-- what limits a station of these settings is printed
abbrev pub AreLimits : StationSettings → ℕ → List AtHost → Result Unit Failure → Type 0
AreLimits s interval =
    Then (Quietly (OrMemory (λ (text : List ℕ). text ≡ limits_text s interval))) IsPrint

-- settings name a file; or their name is empty, which the failure says
abbrev pub HasFile : (file : List ℕ) → Result Unit Failure → Type 0
HasFile [] result = IsErrAnd result (IsOfText (codes "file = \"\"") (codes "a path"))
HasFile (c ∷ cs) result = result ≡ Ok tt

-- The command `station --check`: the settings and labels are read, and what limits the station is
-- printed, if they name a file. Nothing is opened.
abbrev pub IsCheck : (path : List ℕ) (labels : Option (List ℕ)) → Printed → (interval : ℕ)
    → List AtHost → Result Unit Failure → Type 0
IsCheck path labels printed interval =
    Then (IsLabelled path labels printed) (λ both.
    Then (Quietly (HasFile (string_bytes both.0.file))) (λ (has : Unit {0}). AreLimits both.0
    interval))
