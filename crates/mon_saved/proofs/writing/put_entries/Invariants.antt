use Rattle.std.proofs.Common.{◌≡◌, ℕ, ◌<◌, ◌≤◌, ◌+◌, ◌++◌, get_or, length, vec_len, vec_capacity}
use Rattle.mon_window.specs.Top.{rising}
use Rattle.mon_board.specs.Board.{window_of}
use Rattle.mon_board.specs.declared.instance.Watched.{Watched}
use Rattle.mon_saved.specs.Image.{IsEntry}
use Rattle.mon_saved.specs.Written.{entry_of}
use Rattle.mon_saved.proofs.Loops.{left}
use Rattle.mon_saved.proofs.writing.put_entries.Given as goal

abbrev pub invariant-loop-i : goal.invariant-loop-i
invariant-loop-i l = (l.out.items ++ left (window_of l.board) l.watched l.i ≡ l.initial.out.items ++ left (window_of l.board) l.watched 0)
    × (vec_len l.out + length (left (window_of l.board) l.watched l.i) ≡ vec_len l.initial.out + length (left (window_of l.board) l.watched 0))
    × (vec_capacity l.initial.out ≤ vec_capacity l.out)
    × ((k : ℕ) (d : Watched) → k < l.i → IsEntry (entry_of (get_or l.watched k d) (rising (window_of l.board k))))
