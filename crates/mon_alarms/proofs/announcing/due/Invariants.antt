use Rattle.std.proofs.Common.{◌≡◌, ◌++◌, drop}
use Rattle.mon_alarms.specs.Announcing.{due_from}
use Rattle.mon_alarms.proofs.announcing.due.Given as goal

-- what is announced of the rules so far, and of those that are left
abbrev pub invariant-loop-number : goal.invariant-loop-number
invariant-loop-number l = l.announced.items ++ due_from l.after l.number (drop l.number l.rules) ≡ due_from l.after 0 l.rules
