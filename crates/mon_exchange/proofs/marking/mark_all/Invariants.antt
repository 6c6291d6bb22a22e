use Rattle.std.proofs.Common.{◌≡◌, ℕ, take, ◌||◌, ◌&&◌}
use Rattle.std.specs.Prelude.{◌==◌}
use Rattle.mon_board.specs.Board.{is_marked, window_of}
use Rattle.mon_exchange.specs.Peers.{is_claimed}
use Rattle.mon_exchange.proofs.marking.mark_all.Given as goal

-- the samples so far are marked
abbrev pub invariant-loop-sample : goal.invariant-loop-sample
invariant-loop-sample l = record {
  watch : l.board.watch ≡ l.initial.board.watch;
  windows : l.board.windows ≡ l.initial.board.windows;
  marks : (k i s : ℕ) → is_marked l.board k i s
      ≡ (is_marked l.initial.board k i s || ((k == l.slot) && is_claimed l.instance (take l.sample-index l.samples) (window_of l.initial.board) i s));
}
