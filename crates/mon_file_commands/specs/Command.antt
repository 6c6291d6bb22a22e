-- The command `report`.
use Rattle.std.specs.Prelude.{ℕ, List, [], Option, Some, None, Result, option_map}
use Rattle.mon_cli.specs.declared.meaning.Printed.{Printed}
use Rattle.mon_cli.specs.declared.meaning.ReportArgs.{ReportArgs}
use Rattle.mon_console.specs.declared.failure.Failure.{Failure}
use Rattle.mon_file_commands.specs.Own.{IsFileReport}
use Rattle.mon_file_commands.specs.Saved.{IsSettingsReport}
use Rattle.mon_host.specs.AtHost.{AtHost}

-- a path that may be given; the empty one if it isn't
abbrev pub path_or_empty : Option (List ℕ) → List ℕ
path_or_empty None = []
path_or_empty (Some path) = path

-- the report of a station's file: by what it holds itself if it is given, else by the settings
abbrev pub IsReportOf : (file settings labels : Option (List ℕ)) → Printed → List AtHost
    → Result Unit Failure → Type 0
IsReportOf (Some file) settings labels printed = IsFileReport file labels printed
IsReportOf None settings labels printed = IsSettingsReport (path_or_empty settings) labels printed

-- The command `report`, of the file that the arguments give or of the settings.
abbrev pub IsReportCommand : ReportArgs → List AtHost → Result Unit Failure → Type 0
IsReportCommand words = IsReportOf (option_map (λ f. f.now) words.file)
    (option_map (λ s. s.now) words.settings) (option_map (λ l. l.now) words.labels) words.printed
