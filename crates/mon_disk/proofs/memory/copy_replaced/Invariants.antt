use Rattle.std.proofs.Common.{◌≡◌, map, take}
use Rattle.mon_disk.specs.Record.{numbers}
use Rattle.mon_disk.proofs.memory.copy_replaced.Given as goal

abbrev pub invariant-loop-one : goal.invariant-loop-one
invariant-loop-one l = map numbers l.all.items ≡ map numbers (take l.one-index l.replaced)
