-- The settings of a station, and how its reports are printed.
use Rattle.std.specs.Prelude.{◌≡◌, ℕ, List, [], false, map, Result, Ok, Err, String, string_bytes}
use Rattle.std.specs.Global.{Global, Vec}
use Rattle.mon_cli.specs.declared.meaning.Printed.{Printed}
use Rattle.mon_console.specs.Files.{IsText}
use Rattle.mon_console.specs.Naming.{AreNames}
use Rattle.mon_console.specs.Printing.{IsPrinting}
use Rattle.mon_console.specs.declared.failure.Failure.{Failure}
use Rattle.mon_console.specs.declared.printing.Printing.{Printing}
use Rattle.mon_faults.specs.declared.fault.Fault.TheVariants.{Settings}
use Rattle.mon_host.specs.AtHost.{AtHost}
use Rattle.mon_host.specs.Then.{Quietly, Then}
use Rattle.mon_settings.specs.Accepted.{HoldsOr}
use Rattle.mon_settings.specs.Leaf.{texts_in}
use Rattle.mon_settings.specs.Resolving.{resolution}
use Rattle.mon_settings.specs.Station.{modules_at, station_of}
use Rattle.mon_settings.specs.StationAccepted.{IsStation, station_view}
use Rattle.mon_settings.specs.Text.{IsRefusal, Says}
use Rattle.mon_settings.specs.declared.fault.SettingsFault.{SettingsFault}
use Rattle.mon_settings.specs.declared.key.Key.TheVariants as key
use Rattle.mon_settings.specs.declared.station.StationSettings.{StationSettings}
use Rattle.mon_smi.specs.declared.definition.Definition.{Definition}

-- the settings were refused for a fault of which this holds
pub record IsRefused (Holds : SettingsFault → Type 0) (failure : Failure) : Type 0 where
  pub why : SettingsFault
  pub fault : failure.fault ≡ Settings why
  pub cause : Holds why
  pub whole : failure.is_cut ≡ false

-- the files of modules that the text of settings lists; or why it was refused
abbrev pub AreModuleFiles : List ℕ → Result (Vec (String Global)) Failure → Type 0
AreModuleFiles text (Ok files) = Says (HoldsOr key.Modules [] texts_in) text
    (map string_bytes files.items)
AreModuleFiles text (Err failure) = IsRefused (IsRefusal modules_at text) failure

-- the settings that a text says by these names; or why it was refused
abbrev pub AreSettings : List ℕ → List Definition → Result StationSettings Failure → Type 0
AreSettings text names (Ok settings) = Says (IsStation names) text (station_view settings)
AreSettings text names (Err failure) =
    IsRefused (IsRefusal (station_of (resolution names)) text) failure

-- settings and a way to print reports, or a failure
abbrev pub Both : Type 0
Both = Result (StationSettings × Printing) Failure

-- these settings, and this way to print reports
abbrev pub AreBoth : StationSettings → Printing → Both → Type 0
AreBoth settings printing result = result ≡ Ok (settings, printing)

-- the settings by these names, and how reports are printed, whose modules are in these files
abbrev pub IsStationBy : List ℕ → Printed → List (String Global) → List Definition → List AtHost
    → Both → Type 0
IsStationBy text printed files names = Then (Quietly (AreSettings text names)) (λ settings.
    Then (IsPrinting printed names files) (λ printing. Quietly (AreBoth settings printing)))

-- the settings that a text says, by the names of the modules that it lists
abbrev pub IsStationText : List ℕ → Printed → List AtHost → Both → Type 0
IsStationText text printed = Then (Quietly (AreModuleFiles text)) (λ files.
    Then (AreNames (map string_bytes files.items)) (IsStationBy text printed files.items))

-- The settings in a file. The file is read, then those of the modules that it lists, and then those
-- of the modules that the arguments list.
abbrev pub IsStationFile : List ℕ → Printed → List AtHost → Both → Type 0
IsStationFile path printed = Then (IsText path) (λ text. IsStationText (string_bytes text) printed)
