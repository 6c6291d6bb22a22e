use Rattle.std.proofs.Common.{◌≡◌, ◌++◌, drop}
use Rattle.std.specs.Prelude.{None}
use Rattle.mon_survey.specs.Labels.{indexes_after}
use Rattle.mon_survey.proofs.tables.indexes_of.Given as goal

-- with the indexes of the counters that are left they are all
abbrev pub invariant-loop-one : goal.invariant-loop-one
invariant-loop-one l = l.indexes.items ++ indexes_after l.before (drop l.one-index l.counters) ≡ indexes_after None l.counters
