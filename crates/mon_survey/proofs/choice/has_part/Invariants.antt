use Rattle.std.proofs.Common.{◌≡◌, length}
use Rattle.mon_survey.specs.Plan.{has_part}
use Rattle.mon_survey.proofs.choice.has_part.Given as goal

-- what is left decides
abbrev pub invariant-scan : goal.invariant-scan
invariant-scan l = has_part l.part l.rest ≡ has_part l.part l.all

abbrev pub decreases-scan : goal.decreases-scan
decreases-scan l = length l.rest
