use Rattle.std.proofs.Common.{◌≡◌, map, take}
use Rattle.mon_disk.specs.Record.{plain}
use Rattle.mon_disk.proofs.memory.copy_calls.Given as goal

abbrev pub invariant-loop-call : goal.invariant-loop-call
invariant-loop-call l = map plain l.all.items ≡ map plain (take l.call-index l.calls)
