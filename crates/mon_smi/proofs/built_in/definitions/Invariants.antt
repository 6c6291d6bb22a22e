use Rattle.std.proofs.Common.{◌≡◌, map, take}
use Rattle.mon_smi.specs.BuiltIn.{rooted}
use Rattle.mon_smi.proofs.built_in.definitions.Given as goal

-- the rows so far are made definitions
abbrev pub invariant-loop-row : goal.invariant-loop-row
invariant-loop-row l = l.definitions.items ≡ map (λ row. rooted row.0.now row.1.now) (take l.row-index l.rows)
