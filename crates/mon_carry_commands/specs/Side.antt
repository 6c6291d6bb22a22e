-- The settings between which windows are carried.
use Rattle.std.specs.Prelude.{◌≡◌, ◌≢◌, ℕ, List, [], false, Result, Ok, Err, codes}
use Rattle.mon_cli.specs.declared.meaning.Printed.{Printed}
use Rattle.mon_console.specs.Failure.{IsOfText}
use Rattle.mon_console.specs.Settings.{IsStationFile}
use Rattle.mon_console.specs.declared.failure.Failure.{Failure}
use Rattle.mon_formats.specs.declared.format.Format.TheVariants.{Text}
use Rattle.mon_host.specs.AtHost.{AtHost}
use Rattle.mon_host.specs.Then.{Quietly, Then}
use Rattle.mon_settings.specs.declared.station.StationSettings.{StationSettings}
use Rattle.mon_carry_commands.specs.declared.side.Side.{Side}

-- the file of settings, and what they watch
abbrev pub side_of : StationSettings → Side
side_of settings = record { file = settings.file; watch = settings.core.watch }

-- a report in lines of text, with names in numbers
abbrev pub IsPlain : Printed → Type 0
IsPlain p = (p.format ≡ Text) × (p.named.modules.now ≡ []) × (p.named.shown ≡ false)

-- the settings in a file are read, with what a plain report would need
abbrev pub IsSideBy : List ℕ → Printed → List AtHost → Result Side Failure → Type 0
IsSideBy path printed = Then (IsStationFile path printed)
    (λ read. Quietly (λ result. result ≡ Ok (side_of read.0)))

-- the settings in a file are read: the modules that they list too, and no others
abbrev pub IsSide : List ℕ → List AtHost → Result Side Failure → Type 0
IsSide path log result = (printed : Printed) × IsPlain printed × IsSideBy path printed log result

-- two settings name different files; or one, which is refused
abbrev pub AreApart : (old new : List ℕ) → Result Unit Failure → Type 0
AreApart old new (Ok done) = old ≢ new
AreApart old new (Err failure) = (old ≡ new)
    × IsOfText new (codes "a file other than that of the old settings") failure
