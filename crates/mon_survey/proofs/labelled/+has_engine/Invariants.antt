use Rattle.std.proofs.Common.{length}
use Rattle.mon_survey.proofs.labelled.+has_engine.Given as goal

-- how many are left
abbrev pub decreases-has_engine : goal.decreases-has_engine
decreases-has_engine l = length l.values.now
