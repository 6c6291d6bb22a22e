use Rattle.std.proofs.Common.{◌≡◌, ◌≤◌, take, length}
use Rattle.mon_disk.specs.Record.{restored}
use Rattle.mon_disk.proofs.memory.take_back.Given as goal

abbrev pub invariant-loop-left : goal.invariant-loop-left
invariant-loop-left l = (l.left ≤ length l.fn.replaced) × (restored l.file.items (take l.left l.fn.replaced) ≡ restored l.fn.file.items l.fn.replaced)

abbrev pub decreases-loop-left : goal.decreases-loop-left
decreases-loop-left l = l.left
