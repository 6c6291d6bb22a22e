use Rattle.std.proofs.Common.{get_or}
use Rattle.std.specs.FinSet as set
use Rattle.mon_board.specs.Board.{sets_of}
use Rattle.mon_board.specs.Marks.{AreKept}
use Rattle.mon_board.proofs.Places.{AreChangedTo}
use Rattle.mon_board.proofs.each.keep_each.Given as goal

-- the marks up to i are those of samples in the windows, and the others are as they were
abbrev pub invariant-loop-i : goal.invariant-loop-i
invariant-loop-i l = AreChangedTo (λ i. AreKept (get_or (sets_of l.windows) i set.empty)) l.initial.marks l.marks l.i
