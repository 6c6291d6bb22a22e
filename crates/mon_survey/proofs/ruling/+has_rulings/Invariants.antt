use Rattle.std.proofs.Common.{length}
use Rattle.mon_survey.proofs.ruling.+has_rulings.Given as goal

-- how many are left
abbrev pub decreases-has_rulings : goal.decreases-has_rulings
decreases-has_rulings l = length l.rulings.now
