use Rattle.std.proofs.Common.{◌≡◌, ◌++◌, length}
use Rattle.mon_survey.specs.Edited.{replaced}
use Rattle.mon_survey.proofs.editing.replaced.Given as goal

-- with what becomes of the rest it is all
abbrev pub invariant-scan : goal.invariant-scan
invariant-scan l = l.out.items ++ replaced l.swap.from.now l.swap.to.now l.skip l.rest ≡ replaced l.swap.from.now l.swap.to.now 0 l.text

abbrev pub decreases-scan : goal.decreases-scan
decreases-scan l = length l.rest
