use Rattle.mon_board.proofs.Entries.{IsCleared}
use Rattle.mon_board.proofs.Places.{AreChangedTo}
use Rattle.mon_board.proofs.marks.Marks.clear.Given as goal

-- those so far have no bit of the slot, and the others are as they were
abbrev pub invariant-loop-item : goal.invariant-loop-item
invariant-loop-item l = AreChangedTo (λ i. IsCleared l.slot) l.initial.item-items l.item-items l.item-index
