use Rattle.std.proofs.Common.{◌≡◌, ◌+◌, ◌≤◌, length}
use Rattle.mon_smi.specs.Reading.{nested_at}
use Rattle.mon_smi.proofs.rules.nested_at.Given as goal

abbrev pub invariant-loop-rest : goal.invariant-loop-rest
invariant-loop-rest l = record {
  within : l.depth + length l.rest ≤ length l.ls;
  so_far : nested_at l.left l.right l.depth l.rest ≡ nested_at l.left l.right 0 l.ls;
}

abbrev pub decreases-loop-rest : goal.decreases-loop-rest
decreases-loop-rest l = length l.rest
