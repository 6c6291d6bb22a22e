use Rattle.std.proofs.Common.{◌≡◌, length}
use Rattle.mon_survey.specs.Edited.{is_comment}
use Rattle.mon_survey.proofs.editing.is_comment.Given as goal

-- what is left decides
abbrev pub invariant-scan : goal.invariant-scan
invariant-scan l = is_comment l.rest ≡ is_comment l.line

abbrev pub decreases-scan : goal.decreases-scan
decreases-scan l = length l.rest
