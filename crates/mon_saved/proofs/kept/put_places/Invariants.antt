use Rattle.std.proofs.Common.{◌≡◌, ◌≤◌, ◌<◌, ◌+◌, ◌*◌, ℕ, get_or, length, vec_capacity}
use Rattle.mon_board.specs.Board.{window_of}
use Rattle.mon_saved.specs.Kept.{entries_on, records_on}
use Rattle.mon_saved.proofs.kept.put_places.Given as goal

-- the places so far are put down
abbrev pub invariant-loop-i : goal.invariant-loop-i
invariant-loop-i l = record {
  at : l.at + length (entries_on l.watched (window_of l.board) l.i) ≡ 25 + length (entries_on l.watched (window_of l.board) 0);
  small : l.at ≤ 25 + 1893 * l.i;
  number : length l.places.items ≡ l.i;
  room : length l.watched ≤ vec_capacity l.places;
  capacity : vec_capacity l.initial.places ≤ vec_capacity l.places;
  places : (k : ℕ) → k < l.i → get_or l.places.items k 0 + length (records_on l.watched (window_of l.board) k) ≡ 25 + length (entries_on l.watched (window_of l.board) 0);
}
