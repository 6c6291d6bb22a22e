use Rattle.std.proofs.Common.{◌≡◌, ◌≤◌, ◌+◌, ◌*◌, length}
use Rattle.mon_board.specs.Board.{window_of}
use Rattle.mon_saved.proofs.Loops.{left}
use Rattle.mon_saved.proofs.writing.image_size.Given as goal

abbrev pub invariant-loop-i : goal.invariant-loop-i
invariant-loop-i l = (l.size + length (left (window_of l.board) l.watched l.i) ≡ 9 + length (left (window_of l.board) l.watched 0))
    × (l.size ≤ 9 + 1893 * l.i)
