use Rattle.std.proofs.Common.{length}
use Rattle.mon_survey.proofs.kept.+are_same_addresses.Given as goal

-- how many are left
abbrev pub decreases-are_same_addresses : goal.decreases-are_same_addresses
decreases-are_same_addresses l = length l.old.now
