use Rattle.std.proofs.Common.{◌≡◌, take}
use Rattle.std.specs.List.{flat_map}
use Rattle.mon_survey.specs.Updated.{unless_there}
use Rattle.mon_survey.proofs.changes.new_counters.Given as goal

-- the counters so far
abbrev pub invariant-loop-one : goal.invariant-loop-one
invariant-loop-one l = l.counters.items ≡ flat_map (unless_there l.left.items) (take l.one-index l.one-items)
