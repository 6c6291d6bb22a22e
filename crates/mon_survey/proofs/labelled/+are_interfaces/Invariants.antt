use Rattle.std.proofs.Common.{length}
use Rattle.mon_survey.proofs.labelled.+are_interfaces.Given as goal

-- how many are left
abbrev pub decreases-are_interfaces : goal.decreases-are_interfaces
decreases-are_interfaces l = length l.indexes.now
