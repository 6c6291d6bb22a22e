use Rattle.std.proofs.Common.{length}
use Rattle.mon_survey.proofs.kept.+are_own_alarms.Given as goal

-- how many are left
abbrev pub decreases-are_own_alarms : goal.decreases-are_own_alarms
decreases-are_own_alarms l = length l.rules.now
