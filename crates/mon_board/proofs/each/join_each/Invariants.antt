use Rattle.std.proofs.Common.{◌≡◌, get_or}
use Rattle.std.specs.FinSet as set
use Rattle.mon_sample.specs.Key.{boots_of}
use Rattle.mon_window.specs.Keep.{keep}
use Rattle.mon_board.specs.Board.{sets_of}
use Rattle.mon_board.proofs.Places.{AreChangedTo}
use Rattle.mon_board.proofs.each.join_each.Given as goal

-- the windows up to i are joined, and the others are as they were
abbrev pub invariant-loop-i : goal.invariant-loop-i
invariant-loop-i l = AreChangedTo (λ i old new. new ≡ record old { items = keep boots_of old.size old.epoch (set.union old.items (get_or (sets_of l.others) i set.empty)) }) l.initial.windows l.windows l.i
