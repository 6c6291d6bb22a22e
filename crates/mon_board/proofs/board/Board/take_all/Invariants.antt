use Rattle.std.proofs.Common.{◌≡◌, ℕ, take}
use Rattle.mon_board.specs.Board.{KeepsMarks, window_of}
use Rattle.mon_board.specs.Windows.{joined, paired}
use Rattle.mon_board.proofs.board.Board.take_all.Given as goal

-- the samples so far were taken
abbrev pub invariant-loop-sample : goal.invariant-loop-sample
invariant-loop-sample l = record {
  watch : l.self.watch ≡ l.initial.self.watch;
  windows : (i : ℕ) → window_of l.self i ≡ joined l.initial.self.watch (window_of l.initial.self) (paired l.instance (take l.sample-index l.samples)) i;
  marks : KeepsMarks l.initial.self l.self;
}
