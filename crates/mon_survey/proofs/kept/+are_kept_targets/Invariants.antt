use Rattle.std.proofs.Common.{length}
use Rattle.mon_survey.proofs.kept.+are_kept_targets.Given as goal

-- how many are left
abbrev pub decreases-are_kept_targets : goal.decreases-are_kept_targets
decreases-are_kept_targets l = length l.old.now
