use Rattle.std.proofs.Common.{◌-◌, length}
use Rattle.mon_window.specs.Top.{rising}
use Rattle.mon_board.specs.Board.{is_marked, window_of}
use Rattle.mon_board.specs.Owed.{owed_in}
use Rattle.mon_exchange.proofs.Above.{IsAt}
use Rattle.mon_exchange.proofs.sharing.owed_of.Given as goal

-- what was pushed is the beginning of what is owed
abbrev pub invariant-loop-owed : goal.invariant-loop-owed
invariant-loop-owed l = IsAt (rising (owed_in (window_of l.board) (is_marked l.board l.slot) l.instance)) l.owed.items l.after

abbrev pub decreases-loop-owed : goal.decreases-loop-owed
decreases-loop-owed l = length (rising (owed_in (window_of l.board) (is_marked l.board l.slot) l.instance)) - length l.owed.items
