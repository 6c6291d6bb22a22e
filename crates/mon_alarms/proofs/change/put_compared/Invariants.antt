use Rattle.std.proofs.Common.{◌≡◌, ℕ, ◌+◌, ◌++◌, Bool, List, length}
use Rattle.mon_alarms.specs.Changes.{events_of, merged, new_of, with_rule}
use Rattle.mon_alarms.specs.Comparison.{IsComparison}
use Rattle.mon_alarms.proofs.change.put_compared.Given as goal

-- the comparison over the samples so far, and the new events of these
abbrev pub invariant-loop-next : goal.invariant-loop-next
invariant-loop-next l =
    (seen : List (ℕ × Bool))
    × (merged l.was l.is ≡ seen ++ merged l.old l.new)
    × IsComparison l.rule seen l.comparison
    × (l.changes.items ≡ l.fn.changes.items ++ with_rule l.number (new_of (events_of l.rule seen)))

abbrev pub decreases-loop-next : goal.decreases-loop-next
decreases-loop-next l = length l.old + length l.new
