use Rattle.std.proofs.Common.{◌≡◌, ℕ, take}
use Rattle.mon_board.specs.Board.{KeepsMarks, window_of}
use Rattle.mon_board.specs.Windows.{joined}
use Rattle.mon_board.proofs.board.Board.take_pairs.Given as goal

-- the pairs so far were taken
abbrev pub invariant-loop-instance : goal.invariant-loop-instance
invariant-loop-instance l = record {
  watch : l.self.watch ≡ l.initial.self.watch;
  windows : (i : ℕ) → window_of l.self i ≡ joined l.initial.self.watch (window_of l.initial.self) (take l.instance-index l.pairs) i;
  marks : KeepsMarks l.initial.self l.self;
}
