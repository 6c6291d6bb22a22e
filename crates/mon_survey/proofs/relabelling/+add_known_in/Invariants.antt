use Rattle.std.proofs.Common.{length}
use Rattle.mon_survey.proofs.relabelling.+add_known_in.Given as goal

-- how many are left
abbrev pub decreases-add_known_in : goal.decreases-add_known_in
decreases-add_known_in l = length l.values.now
