use Rattle.std.proofs.Common.{◌≡◌, ◌++◌, take, string_bytes}
use Rattle.std.specs.List.{flat_map}
use Rattle.mon_table.specs.Table.{down_if}
use Rattle.mon_table.proofs.down.put_down.Given as goal

-- those so far are written
abbrev pub invariant-loop-target : goal.invariant-loop-target
invariant-loop-target l = string_bytes l.text ≡ string_bytes l.fn.text ++ flat_map down_if (take l.target-index l.targets)
