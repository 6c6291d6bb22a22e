use Rattle.std.proofs.Common.{◌≡◌, ◌++◌, take}
use Rattle.mon_rounds.specs.Changes.{changes_from}
use Rattle.mon_rounds.proofs.changes.put_changes.Given as goal

-- those so far are added
abbrev pub invariant-loop-number : goal.invariant-loop-number
invariant-loop-number l = l.changes.items ≡ l.initial.changes.items ++ changes_from l.trouble 0 l.said (take l.number l.is)
