use Rattle.std.proofs.Common.{◌≡◌, ◌++◌, take}
use Rattle.mon_rounds.specs.Changes.{engine_changes}
use Rattle.mon_rounds.proofs.changes.put_engine_changes.Given as goal

-- those so far are added
abbrev pub invariant-loop-number : goal.invariant-loop-number
invariant-loop-number l = l.changes.items ≡ l.initial.changes.items ++ engine_changes 0 l.said (take l.number l.is)
