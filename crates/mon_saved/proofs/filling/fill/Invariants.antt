use Rattle.std.proofs.Common.{◌≡◌, ℕ, take}
use Rattle.mon_board.specs.Board.{window_of}
use Rattle.mon_board.specs.Windows.{joined}
use Rattle.mon_saved.specs.Restored.{IsUnmarked, pairs_from}
use Rattle.mon_saved.proofs.filling.fill.Given as goal

abbrev pub invariant-loop-k : goal.invariant-loop-k
invariant-loop-k l = (l.board.watch ≡ l.initial.board.watch)
    × ((i : ℕ) → window_of l.board i ≡ joined l.initial.board.watch (window_of l.initial.board) (pairs_from 0 (take l.k l.entries)) i)
    × (IsUnmarked l.initial.board → IsUnmarked l.board)
