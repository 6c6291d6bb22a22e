use Rattle.std.proofs.Common.{length}
use Rattle.mon_survey.proofs.comparing.+are_modules.Given as goal

-- how many texts are left
abbrev pub decreases-are_modules : goal.decreases-are_modules
decreases-are_modules l = length l.texts.now
