use Rattle.std.proofs.Common.{true, take}
use Rattle.std.specs.List.{flat_map}
use Rattle.mon_board.specs.Board.{window_of}
use Rattle.mon_report.specs.Report.{entry_line, entries_from}
use Rattle.mon_report.specs.Written.{AppendsIf}
use Rattle.mon_report.proofs.report.write_lines.Given as goal

-- the lines so far are written
abbrev pub invariant-loop-i : goal.invariant-loop-i
invariant-loop-i g l = AppendsIf (g.W.Write.contents l.fn.writer) true (g.W.Write.contents l.writer) l.ok
    (flat_map entry_line (take l.i (entries_from l.board.watch.rules (window_of l.board) 0 l.board.watch.instances)))
