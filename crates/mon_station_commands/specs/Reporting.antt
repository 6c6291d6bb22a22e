-- The reports of a station.
use Rattle.std.specs.Prelude.{◌≡◌, ◌∷◌, ◌++◌, ℕ, Bool, true, false, not, if◌then◌else◌, List, []}
use Rattle.std.specs.Prelude.{IfSome, Option, Some, None, is_some, Result, Ok, Err, codes, decimal}
use Rattle.std.specs.Global.{Vec}
use Rattle.mon_alarms.specs.Announcing.{announced_states}
use Rattle.mon_alarms.specs.declared.alarm.AlarmState.{AlarmState}
use Rattle.mon_board.specs.declared.board.Board.{Board}
use Rattle.mon_console.specs.Failure.{IsTold, is_memory}
use Rattle.mon_console.specs.Files.{IsPrint, IsPublishing}
use Rattle.mon_console.specs.declared.failure.Failure.{Failure}
use Rattle.mon_console.specs.declared.printing.Printing.{Printing}
use Rattle.mon_formats.specs.declared.format.Format.TheVariants.{Text}
use Rattle.mon_host.specs.AtHost.{AtHost, Noted}
use Rattle.mon_host.specs.declared.level.Level.TheVariants as level
use Rattle.mon_host.specs.Then.{Quietly, Then}
use Rattle.mon_page.specs.declared.figures.Figures.{Figures}
use Rattle.mon_rounds.specs.declared.totals.Totals.{Totals}
use Rattle.mon_rounds.specs.declared.freshness.Freshness.{Freshness}
use Rattle.mon_station.specs.State.{State}
use Rattle.mon_station_commands.specs.Figures.{AreFigures}
use Rattle.mon_file_commands.specs.Report.{report_by}
use Rattle.mon_file_commands.specs.Steps.{OrMemory}
use Rattle.mon_station_commands.specs.declared.live.Reports.{Reports}

-- states that go with figures; without these there are none
abbrev pub states_with : Option Figures → List AlarmState → List AlarmState
states_with None states = []
states_with (Some figures) states = states

-- A text is the report of a board, of these states of its alarms and of figures for which this
-- holds. Lines of text say nothing of figures and of what was announced, and may be made without
-- them.
pub record IsReport (Holds : Figures → Type 0) (printing : Printing) (board : Board)
    (states : List AlarmState) (text : List ℕ) : Type 0 where
  pub figures : Option Figures
  pub holds : IfSome figures Holds
  pub needed : figures ≡ None → printing.format ≡ Text
  pub text_is : text ≡ report_by printing board (states_with figures states) figures

-- A text is the report of a station: of its board as it is, of what was announced of its alarms,
-- and of what it says of itself, as AreFigures has it.
abbrev pub IsReportOf : State → Totals → Freshness → (peers : List ℕ) (engines : List (Vec ℕ))
    (now : ℕ) (round_at : Option ℕ) → Reports → List ℕ → Type 0
IsReportOf state course fresh peers engines now round_at reports =
    IsReport (AreFigures state course fresh peers engines now round_at reports) reports.printing
    state.board
    (announced_states course.announcer)

-- a report for which this holds is printed
abbrev pub IsReported : (List ℕ → Type 0) → List AtHost → Result Unit Failure → Type 0
IsReported Holds = Then (Quietly (OrMemory Holds)) IsPrint

-- a file is replaced by a report for which this holds, and which all users may read
abbrev pub IsFiled : List ℕ → (List ℕ → Type 0) → List AtHost → Result Unit Failure → Type 0
IsFiled path Holds = Then (Quietly (OrMemory Holds)) (IsPublishing path)

-- whether a failure was said before: memory was refused both times, or neither time
abbrev pub is_known : Option Failure → Failure → Bool
is_known None failure = false
is_known (Some before) failure =
    if is_memory before.fault then is_memory failure.fault else not (is_memory failure.fault)

-- the line of a file for reports that could not be written in a round
abbrev pub unwritten_line : (round : ℕ) (path : List ℕ) → List ℕ
unwritten_line round path =
    codes "snmpmon: round " ++ (decimal round ++ (codes ": "
    ++ (path ++ codes " is not written\n")))

-- the line of a file for reports that is written again after that
abbrev pub written_line : (round : ℕ) (path : List ℕ) → List ℕ
written_line round path =
    codes "snmpmon: round " ++ (decimal round ++ (codes ": "
    ++ (path ++ codes " is written again\n")))

-- a file for reports could not be written: that is said in a line, and why, unless it is known
abbrev pub IsUnwritten : (known : Bool) → (round : ℕ) (path : List ℕ) → Failure → List AtHost
    → Type 0
IsUnwritten true round path failure log = log ≡ []
IsUnwritten false round path failure log =
    (rest : List AtHost) × IsTold level.Warning failure rest
    × (log ≡ Noted level.Warning (unwritten_line round path) ∷ rest)

-- a file for reports is written: that is said in a line if it was not before
abbrev pub IsAgain : (failed : Bool) → (round : ℕ) (path : List ℕ) → List AtHost → Type 0
IsAgain false round path log = log ≡ []
IsAgain true round path log = log ≡ Noted level.Notice (written_line round path) ∷ []

-- What is said of the file for reports, which was not written before for this reason, if there is
-- one: a failure that is new, and that it is written again.
abbrev pub IsChangeOut : (round : ℕ) (path : List ℕ) → Option Failure → Result Unit Failure
    → List AtHost → Type 0
IsChangeOut round path before (Ok done) log = IsAgain (is_some before) round path log
IsChangeOut round path before (Err failure) log =
    IsUnwritten (is_known before failure) round path failure log

-- why something was not done, if it wasn't
abbrev pub failed_by : Result Unit Failure → Option Failure
failed_by (Ok done) = None
failed_by (Err failure) = Some failure

-- A file is replaced by a report for which this holds. What changed by that is said: `before` and
-- `after` are why it was not written before, and now.
pub record IsWritten (round : ℕ) (path : List ℕ) (Holds : List ℕ → Type 0) (before : Option Failure)
    (log : List AtHost) (after : Option Failure) : Type 0 where
  pub given : Result Unit Failure
  pub begin : List AtHost
  pub filed : IsFiled path Holds begin given
  pub rest : List AtHost
  pub said : IsChangeOut round path before given rest
  pub after_is : after ≡ failed_by given
  pub log_is : log ≡ begin ++ rest

-- the file for reports, if there is one, is written after a round
abbrev pub IsOut : (round : ℕ) → (path : Option (List ℕ)) → (List ℕ → Type 0) → Option Failure
    → List AtHost → Option Failure → Type 0
IsOut round None Holds before log after = (log ≡ []) × (after ≡ None)
IsOut round (Some path) Holds before log after = IsWritten round path Holds before log after
