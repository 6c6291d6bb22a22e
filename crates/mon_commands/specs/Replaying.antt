-- What `replay` does.
use Rattle.std.specs.Prelude.{◌≡◌, ℕ, List, [], ◌∷◌, Bool, true, false, None, Result, Ok, Err}
use Rattle.std.specs.Global.{Vec}
use Rattle.mon_app.specs.Outcome.{IsReplay}
use Rattle.mon_app.specs.Reported.{IsKept, Kept}
use Rattle.mon_cli.specs.declared.meaning.Printed.{Printed}
use Rattle.mon_cli.specs.declared.meaning.ReplayArgs.{ReplayArgs}
use Rattle.mon_commands.specs.declared.recorded.Reported.{Reported}
use Rattle.mon_console.specs.Failure.{IsMemory}
use Rattle.mon_console.specs.Files.{IsInput, IsPrint}
use Rattle.mon_console.specs.Naming.{AreBuiltIn, names_in}
use Rattle.mon_console.specs.Printing.{IsPrinting}
use Rattle.mon_console.specs.Shown.{shown_by}
use Rattle.mon_console.specs.declared.failure.Failure.{Failure}
use Rattle.mon_console.specs.declared.naming.KnownNames.{KnownNames}
use Rattle.mon_console.specs.declared.printing.Printing.{Printing}
use Rattle.mon_formats.specs.Formats.{formatted}
use Rattle.mon_formats.specs.declared.format.Format.{Format}
use Rattle.mon_formats.specs.declared.format.Format.TheVariants as format
use Rattle.mon_host.specs.AtHost.{AtHost, Noted}
use Rattle.mon_host.specs.declared.level.Level.TheVariants as level
use Rattle.mon_host.specs.Then.{Quietly, Then}

-- the text of the windows of what an input records, by the grammar of messages; or memory ran out
abbrev pub IsReplayed : ℕ → List ℕ → Result (Vec ℕ) Failure → Type 0
IsReplayed size input (Ok text) = IsReplay size input text.items
IsReplayed size input (Err failure) = IsMemory failure

-- standard input is read, and the text of its windows is printed
abbrev pub IsReplaying : ℕ → List AtHost → Result Unit Failure → Type 0
IsReplaying size = Then IsInput (λ input. Then (Quietly (IsReplayed size input.items))
    (λ text. IsPrint text.items))

-- the report of what a replay keeps, printed in this way
abbrev pub report_text : Printing → Kept → List ℕ
report_text p kept = formatted p.format (shown_by p.names) kept.entries None p.labels.items
    p.presentation

-- what a replay keeps of an input, by the grammar of messages, and its report; or memory ran out
abbrev pub IsReported : ℕ → List ℕ → Printing → Result Reported Failure → Type 0
IsReported size input p (Ok r) = IsKept size input r.recorded
    × (r.text.items ≡ report_text p r.recorded)
IsReported size input p (Err failure) = IsMemory failure

-- The lines of what is refused are printed with lines of text, and else sent to standard error.
abbrev pub AreRefused : Format → List ℕ → List AtHost → Result Unit Failure → Type 0
AreRefused format.Text lines log result = IsPrint lines log result
AreRefused _ lines log result = (log ≡ Noted level.Warning lines ∷ []) × (result ≡ Ok tt)

-- standard input is read, the lines of what is refused come first, and the report is printed
abbrev pub PrintsReport : ℕ → Printing → List AtHost → Result Unit Failure → Type 0
PrintsReport size p = Then IsInput (λ input. Then (Quietly (IsReported size input.items p))
    (λ r. Then (AreRefused p.format r.recorded.refused) (λ done. IsPrint r.text.items)))

-- the built-in names; or memory ran out
abbrev pub IsBuiltIn : Result KnownNames Failure → Type 0
IsBuiltIn result = AreBuiltIn (names_in result)

-- the modules are read first, by whose names the report is printed
abbrev pub IsReplayReport : ℕ → Printed → List AtHost → Result Unit Failure → Type 0
IsReplayReport size printed = Then (Quietly IsBuiltIn)
    (λ known. Then (IsPrinting printed known.names []) (λ p. PrintsReport size p))

-- the report, if the arguments ask for it, or else the windows
abbrev pub IsRecordingIf : Bool → ReplayArgs → List AtHost → Result Unit Failure → Type 0
IsRecordingIf true words = IsReplayReport words.size words.printed
IsRecordingIf false words = IsReplaying words.size

-- the command `replay`
abbrev pub IsRecording : ReplayArgs → List AtHost → Result Unit Failure → Type 0
IsRecording words = IsRecordingIf words.reports words
