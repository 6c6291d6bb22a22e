use Rattle.std.proofs.Common.{length}
use Rattle.mon_survey.proofs.kept.+are_same_objects.Given as goal

-- how many are left
abbrev pub decreases-are_same_objects : goal.decreases-are_same_objects
decreases-are_same_objects l = length l.old.now
