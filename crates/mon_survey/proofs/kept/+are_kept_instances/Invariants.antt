use Rattle.std.proofs.Common.{length}
use Rattle.mon_survey.proofs.kept.+are_kept_instances.Given as goal

-- how many are left
abbrev pub decreases-are_kept_instances : goal.decreases-are_kept_instances
decreases-are_kept_instances l = length l.new.now
