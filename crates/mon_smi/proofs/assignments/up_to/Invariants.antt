use Rattle.std.proofs.Common.{◌≡◌, length}
use Rattle.mon_smi.specs.Reading.{up_to}
use Rattle.mon_smi.proofs.assignments.up_to.Given as goal

abbrev pub invariant-loop-rest : goal.invariant-loop-rest
invariant-loop-rest l = up_to l.kind l.rest ≡ up_to l.kind l.ls

abbrev pub decreases-loop-rest : goal.decreases-loop-rest
decreases-loop-rest l = length l.rest
