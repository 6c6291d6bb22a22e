use Rattle.std.proofs.Common.{length}
use Rattle.mon_survey.proofs.updating.+are_watched.Given as goal

-- how many are left
abbrev pub decreases-are_watched : goal.decreases-are_watched
decreases-are_watched l = length l.all.now
