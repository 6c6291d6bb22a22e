use Rattle.std.proofs.Common.{◌≡◌, map, take}
use Rattle.mon_board.specs.Empty.{no_marks_of}
use Rattle.mon_board.proofs.board.no_marks.Given as goal

-- the marks so far are none
abbrev pub invariant-loop-watched : goal.invariant-loop-watched
invariant-loop-watched l = l.marks.items ≡ map no_marks_of (take l.watched-index l.watch.instances)
