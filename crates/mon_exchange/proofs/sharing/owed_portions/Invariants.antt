use Rattle.std.proofs.Common.{◌≡◌, length}
use Rattle.std.specs.Prelude.{All}
use Rattle.mon_board.specs.Board.{is_marked, window_of}
use Rattle.mon_board.specs.Owed.{owed_in}
use Rattle.mon_exchange.specs.Portions.{IsPortion, portions_from}
use Rattle.mon_exchange.proofs.sharing.owed_portions.Given as goal

-- the portions of the instances so far
abbrev pub invariant-loop-place : goal.invariant-loop-place
invariant-loop-place l = record {
  portions : l.portions.items ≡ portions_from (owed_in (window_of l.board) (is_marked l.board l.slot)) 0 l.place;
  each : All (IsPortion (length l.board.watch.instances)) l.portions.items;
}
