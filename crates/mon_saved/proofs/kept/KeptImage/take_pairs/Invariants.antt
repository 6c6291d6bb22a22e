use Rattle.std.proofs.Common.{◌≡◌, ℕ, take}
use Rattle.mon_board.specs.Board.{KeepsMarks, window_of}
use Rattle.mon_board.specs.Windows.{joined}
use Rattle.mon_saved.specs.Kept.{IsKept}
use Rattle.mon_saved.proofs.kept.KeptImage.take_pairs.Given as goal

-- the pairs so far were taken
abbrev pub invariant-loop-instance : goal.invariant-loop-instance
invariant-loop-instance l = record {
  watch : l.board.watch ≡ l.initial.board.watch;
  windows : (i : ℕ) → window_of l.board i ≡ joined l.initial.board.watch (window_of l.initial.board) (take l.instance-index l.pairs) i;
  marks : KeepsMarks l.initial.board l.board;
  kept : IsKept l.self l.board;
}
