use Rattle.mon_board.specs.Marks.{AreCleared}
use Rattle.mon_board.proofs.Places.{AreChangedTo}
use Rattle.mon_board.proofs.each.clear_each.Given as goal

-- the marks up to i are without those of the slot, and the others are as they were
abbrev pub invariant-loop-i : goal.invariant-loop-i
invariant-loop-i l = AreChangedTo (λ i. AreCleared l.slot) l.initial.marks l.marks l.i
