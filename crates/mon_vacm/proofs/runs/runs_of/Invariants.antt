use Rattle.std.proofs.Common.{length}
use Rattle.mon_vacm.proofs.Passing.{AreCounted}
use Rattle.mon_vacm.proofs.runs.runs_of.Given as goal

-- these runs are counted, and these families are left
abbrev pub invariant-loop-rest : goal.invariant-loop-rest
invariant-loop-rest l = AreCounted l.fn.families l.runs.items l.rest

abbrev pub decreases-loop-rest : goal.decreases-loop-rest
decreases-loop-rest l = length l.rest
