-- The report of a board.
use Rattle.std.specs.Prelude.{ℕ, List, Option}
use Rattle.mon_alarms.specs.declared.alarm.AlarmState.{AlarmState}
use Rattle.mon_board.specs.Board.{window_of}
use Rattle.mon_board.specs.declared.board.Board.{Board}
use Rattle.mon_console.specs.Shown.{shown_by}
use Rattle.mon_console.specs.declared.printing.Printing.{Printing}
use Rattle.mon_formats.specs.Formats.{formatted}
use Rattle.mon_page.specs.declared.figures.Figures.{Figures}
use Rattle.mon_report.specs.Report.{Entry, announced_from}

-- the instances of a board, with these states of its alarms in the order of the rules; those that
-- are not there follow from the windows
abbrev pub entries_by : Board → (states : List AlarmState) → List Entry
entries_by board states =
    announced_from states board.watch.rules (window_of board) 0 board.watch.instances

-- the report of a board, of these states of its alarms, and of these figures
abbrev pub report_by : Printing → Board → (states : List AlarmState) → Option Figures → List ℕ
report_by printing board states figures = formatted printing.format (shown_by printing.names)
    (entries_by board states) figures printing.labels.items printing.presentation
