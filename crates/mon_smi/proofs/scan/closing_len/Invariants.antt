use Rattle.std.proofs.Common.{length}
use Rattle.mon_smi.proofs.Quoted.{IsSoFar}
use Rattle.mon_smi.proofs.scan.closing_len.Given as goal

abbrev pub invariant-loop-rest : goal.invariant-loop-rest
invariant-loop-rest l = IsSoFar l.text l.len l.end l.rest

abbrev pub decreases-loop-rest : goal.decreases-loop-rest
decreases-loop-rest l = length l.rest
