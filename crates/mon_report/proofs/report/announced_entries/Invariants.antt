use Rattle.std.proofs.Common.{◌≡◌, take}
use Rattle.mon_board.specs.Board.{window_of}
use Rattle.mon_report.specs.Report.{announced_from}
use Rattle.mon_report.proofs.report.announced_entries.Given as goal

-- those so far are found
abbrev pub invariant-loop-i : goal.invariant-loop-i
invariant-loop-i l = l.found.items ≡ take l.i (announced_from l.states l.board.watch.rules (window_of l.board) 0 l.board.watch.instances)
