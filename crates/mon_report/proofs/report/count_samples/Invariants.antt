use Rattle.std.proofs.Common.{◌≡◌, ◌≤◌, ◌*◌, take}
use Rattle.mon_board.specs.Board.{window_of}
use Rattle.mon_report.specs.Report.{samples_in, entries_from}
use Rattle.mon_report.proofs.report.count_samples.Given as goal

-- those of the instances so far are counted, at most 64 of each
abbrev pub invariant-loop-i : goal.invariant-loop-i
invariant-loop-i l = record {
  counted : l.count ≡ samples_in (take l.i (entries_from l.board.watch.rules (window_of l.board) 0 l.board.watch.instances));
  few : l.count ≤ 64 * l.i;
}
