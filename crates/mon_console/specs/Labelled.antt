-- The settings of a station, and the labels of its instances.
use Rattle.std.specs.Prelude.{◌≡◌, ℕ, Bool, List, [], true, false, map, Option, Some, None, Result}
use Rattle.std.specs.Prelude.{Ok, Err, String, codes, option_map, string_bytes}
use Rattle.std.specs.Global.{Global}
use Rattle.mon_cli.specs.declared.meaning.Printed.{Printed}
use Rattle.mon_console.specs.Failure.{IsMemory}
use Rattle.mon_console.specs.Files.{IsText}
use Rattle.mon_console.specs.Printing.{numbered, with_labels}
use Rattle.mon_console.specs.Settings.{Both, IsStationFile}
use Rattle.mon_console.specs.declared.failure.Failure.{Failure}
use Rattle.mon_console.specs.declared.printing.Printing.{Printing}
use Rattle.mon_faults.specs.Fault.{innermost_of}
use Rattle.mon_host.specs.AtHost.{AtHost}
use Rattle.mon_host.specs.Then.{Quietly, Then}
use Rattle.mon_labels.specs.Described.{described}
use Rattle.mon_labels.specs.Fault.{name_of, number_of}
use Rattle.mon_labels.specs.Given.{Given, given, given_from}
use Rattle.mon_labels.specs.Reading.{IsRefusal, Says}
use Rattle.mon_labels.specs.declared.fault.LabelsFault.{LabelsFault}
use Rattle.mon_labels.specs.declared.labels.Labels.{Labels}
use Rattle.mon_settings.specs.declared.station.StationSettings.{StationSettings}
use Rattle.mon_station.specs.Fault.{Told}
use Rattle.mon_udp.specs.Addr.{addr_text}

-- no labels of interfaces
abbrev pub AreNone : Result Labels Failure → Type 0
AreNone (Ok labels) = labels.interfaces.items ≡ []
AreNone (Err failure) = ⊥

-- a fault of labels, as the line on standard error names it
abbrev pub told_of : LabelsFault → Told
told_of fault = record { part = codes "mon_labels"; number = number_of fault; name = name_of fault }

-- the failure of a text of labels
abbrev pub IsOfLabels : LabelsFault → Failure → Type 0
IsOfLabels fault failure = (innermost_of failure.fault ≡ told_of fault) × (failure.is_cut ≡ false)

-- the labels of interfaces that a text says; or why it was refused
abbrev pub AreSaid : List ℕ → Result Labels Failure → Type 0
AreSaid text (Ok labels) = Says text (map described labels.interfaces.items)
AreSaid text (Err failure) = (fault : LabelsFault) × IsRefusal text fault × IsOfLabels fault failure

-- the labels of interfaces in a file, if one is given
abbrev pub AreLabels : Option (List ℕ) → List AtHost → Result Labels Failure → Type 0
AreLabels None = Quietly AreNone
AreLabels (Some path) = Then (IsText path) (λ text. Quietly (AreSaid (string_bytes text)))

-- the labels of a station's instances: of their targets' addresses, their targets' own, and of
-- interfaces
pub record AreLabelsOf (settings : StationSettings) (labels : Labels) (all : List Given) : Type 0
  where
    pub addresses : List (String Global)
    pub written : map string_bytes addresses ≡ map (λ t. addr_text t.address) settings.core.targets
    pub labelled : all ≡ given_from labels.interfaces.items settings.core.targets addresses
        settings.target_labels.items 0 settings.core.watch.instances

-- settings, and a way to print reports, to which labels and that of the station were added; or
-- memory ran out
abbrev pub AreLabelled : StationSettings → Printing → Labels → Both → Type 0
AreLabelled settings printing labels (Ok both) = (both.0 ≡ settings)
    × (both.1 ≡ with_labels both.1.labels both.1.presentation.label printing)
    × (option_map string_bytes both.1.presentation.label ≡ option_map string_bytes settings.label)
    × AreLabelsOf settings labels (map given both.1.labels.items)
AreLabelled settings printing labels (Err failure) = IsMemory failure

-- a station's number, if series are to have it as a label
abbrev pub number_if : (is_label : Bool) → ℕ → Option ℕ
number_if true number = Some number
number_if false number = None

-- how reports of these settings are printed: in Prometheus' text each series of an instance has the
-- station's number as a label just if the arguments ask for it
abbrev pub numbered_by : Printed → StationSettings × Printing → Printing
numbered_by printed both = numbered (number_if printed.station_label both.0.core.station) both.1

-- The settings in a file, and how reports are printed: with labels, of which the arguments ask for
-- the station's number. After the files of the settings that of the labels of interfaces is read,
-- if one is given.
abbrev pub IsLabelled : List ℕ → Option (List ℕ) → Printed → List AtHost → Both → Type 0
IsLabelled path labels printed = Then (IsStationFile path printed) (λ both.
    Then (AreLabels labels) (λ all. Quietly (AreLabelled both.0 (numbered_by printed both) all)))
