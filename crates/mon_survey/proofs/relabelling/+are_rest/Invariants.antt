use Rattle.std.proofs.Common.{length}
use Rattle.mon_survey.proofs.relabelling.+are_rest.Given as goal

-- how many are left
abbrev pub decreases-are_rest : goal.decreases-are_rest
decreases-are_rest l = length l.old.now
