use Rattle.std.proofs.Common.{◌≡◌, get_or}
use Rattle.mon_window.specs.Window.{Window}
use Rattle.mon_board.proofs.Places.{AreChangedTo}
use Rattle.mon_board.proofs.each.copy_each.Given as goal

-- the windows up to i are copies, and the others are as they were
abbrev pub invariant-loop-i : goal.invariant-loop-i
invariant-loop-i l = AreChangedTo (λ i old new. (d : Window) → new ≡ get_or l.others i d) l.initial.windows l.windows l.i
