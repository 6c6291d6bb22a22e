use Rattle.std.proofs.Common.{◌≡◌}
use Rattle.std.specs.FinSet as set
use Rattle.mon_board.specs.Board.{window_of}
use Rattle.mon_saved.specs.Restored.{IsUnmarked}
use Rattle.mon_carry.specs.Carried.{carried_window}
use Rattle.mon_carry.proofs.Turns.{AreUpTo}
use Rattle.mon_carry.proofs.carrying.carry_all.Given as goal

-- the windows before this place are carried, and the others are empty
abbrev pub invariant-loop-i : goal.invariant-loop-i
invariant-loop-i l = (l.board.watch ≡ l.initial.board.watch)
    × AreUpTo (carried_window l.old l.initial.board.watch l.dropped) set.empty l.i (window_of l.board)
    × (IsUnmarked l.initial.board → IsUnmarked l.board)
