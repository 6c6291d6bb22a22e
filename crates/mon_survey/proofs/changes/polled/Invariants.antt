use Rattle.std.proofs.Common.{◌≡◌, length}
use Rattle.mon_survey.specs.Updated.{polled, polled_after}
use Rattle.mon_survey.proofs.changes.polled.Given as goal

-- with those of what is left they are all
abbrev pub invariant-walk : goal.invariant-walk
invariant-walk l = polled_after l.engine l.indexes.items l.rest ≡ polled l.engine l.instances

abbrev pub decreases-walk : goal.decreases-walk
decreases-walk l = length l.rest
