use Rattle.std.proofs.Common.{length}
use Rattle.mon_survey.proofs.kept.+are_kept_rules.Given as goal

-- how many are left
abbrev pub decreases-are_kept_rules : goal.decreases-are_kept_rules
decreases-are_kept_rules l = length l.new.now
