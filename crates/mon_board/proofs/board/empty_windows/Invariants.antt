use Rattle.std.proofs.Common.{◌≡◌, map, take}
use Rattle.mon_board.specs.Empty.{empty_window_of}
use Rattle.mon_board.proofs.board.empty_windows.Given as goal

-- the windows so far are empty
abbrev pub invariant-loop-watched : goal.invariant-loop-watched
invariant-loop-watched l = l.windows.items ≡ map empty_window_of (take l.watched-index l.watch.instances)
