-- What `rehearse` and `selftest` do.
use Rattle.std.specs.Prelude.{◌≡◌, ℕ, List, Result, Ok, Err, false, []}
use Rattle.std.specs.Global.{Vec}
use Rattle.mon_cli.specs.declared.meaning.Named.{Named}
use Rattle.mon_cli.specs.declared.meaning.Printed.{Printed}
use Rattle.mon_cli.specs.declared.meaning.RehearseArgs.{RehearseArgs}
use Rattle.mon_console.specs.Files.{IsInput, IsPrint}
use Rattle.mon_console.specs.Settings.{IsStationFile}
use Rattle.mon_console.specs.declared.failure.Failure.{Failure}
use Rattle.mon_faults.specs.Fault.{innermost_of}
use Rattle.mon_formats.specs.declared.format.Format.TheVariants.{Text}
use Rattle.mon_host.specs.AtHost.{AtHost}
use Rattle.mon_host.specs.Then.{Quietly, Then}
use Rattle.mon_rehearsal.specs.Fault as rehearsal
use Rattle.mon_rehearsal.specs.Rehearsed.{IsRehearsal}
use Rattle.mon_rehearsal.specs.Script.{Says, lines_of}
use Rattle.mon_rehearsal.specs.ScriptFault.{IsFaultOfRehearsal}
use Rattle.mon_rehearsal.specs.Trial as trial
use Rattle.mon_rehearsal.specs.declared.fault.RehearsalFault.{RehearsalFault}
use Rattle.mon_rehearsal.specs.declared.trial.Trial.{Trial}
use Rattle.mon_rehearsal.specs.declared.trial.TrialFault.{TrialFault}
use Rattle.mon_settings.specs.declared.station.StationSettings.{StationSettings}

-- the failure has this innermost fault, by crate, number and name, and something is said of it
pub record Tells (part : List ℕ) (number : ℕ) (name : List ℕ) (failure : Failure) : Type 0 where
  pub part_is : (innermost_of failure.fault).part ≡ part
  pub number_is : (innermost_of failure.fault).number ≡ number
  pub name_is : (innermost_of failure.fault).name ≡ name
  pub whole : failure.is_cut ≡ false

-- a rehearsal had this fault, as the failure says
abbrev pub TellsRehearsal : RehearsalFault → Failure → Type 0
TellsRehearsal fault = Tells (rehearsal.innermost_of fault).part
    (rehearsal.innermost_of fault).number (rehearsal.innermost_of fault).name

-- a trial had this fault, as the failure says
abbrev pub TellsTrial : TrialFault → Failure → Type 0
TellsTrial fault = Tells (trial.innermost_of fault).part (trial.innermost_of fault).number
    (trial.innermost_of fault).name

-- what the steps of a script make of this many stations; or why nothing is made
abbrev pub IsRehearsed : StationSettings → ℕ → List ℕ → Result (Vec ℕ) Failure → Type 0
IsRehearsed settings count script (Ok text) =
    IsRehearsal settings.core count (lines_of script) text.items
IsRehearsed settings count script (Err failure) = (fault : RehearsalFault)
    × IsFaultOfRehearsal Says count (lines_of script) fault × TellsRehearsal fault failure

-- a report in lines of text, with names in numbers
abbrev pub IsPlain : Printed → Type 0
IsPlain p = (p.format ≡ Text) × (p.named.modules.now ≡ []) × (p.named.shown ≡ false)

-- the settings are read, then the script, and what its steps make is printed
abbrev pub IsRehearsingBy : RehearseArgs → Printed → List AtHost → Result Unit Failure → Type 0
IsRehearsingBy words printed = Then (IsStationFile words.settings.now printed)
    (λ read. Then IsInput (λ script.
    Then (Quietly (IsRehearsed read.0 words.stations script.items))
    (λ text. IsPrint text.items)))

-- the command `rehearse`
abbrev pub IsRehearsing : RehearseArgs → List AtHost → Result Unit Failure → Type 0
IsRehearsing words log result = (printed : Printed) × IsPlain printed
    × IsRehearsingBy words printed log result

-- the text of the trial of a station in memory; or why there is none
abbrev pub IsTried : Result Trial Failure → Type 0
IsTried (Ok tried) = tried.text.items ≡ trial.trial_text
IsTried (Err failure) = (fault : TrialFault) × TellsTrial fault failure

-- the command `selftest`: nothing is read, and the text is printed
abbrev pub IsSelfTest : List AtHost → Result Unit Failure → Type 0
IsSelfTest = Then (Quietly IsTried) (λ tried. IsPrint tried.text.items)
