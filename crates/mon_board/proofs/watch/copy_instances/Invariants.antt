use Rattle.std.proofs.Common.{◌≡◌, take}
use Rattle.mon_board.proofs.watch.copy_instances.Given as goal

-- what was copied so far
abbrev pub invariant-loop-watched : goal.invariant-loop-watched
invariant-loop-watched l = l.copies.items ≡ take l.watched-index l.all
