use Rattle.std.proofs.Common.{length}
use Rattle.mon_survey.proofs.labelled.+continues.Given as goal

-- how many are left
abbrev pub decreases-continues : goal.decreases-continues
decreases-continues l = length l.old.now
