use Rattle.std.proofs.Common.{◌≡◌, take}
use Rattle.mon_alarms.specs.Announcing.{noted_from}
use Rattle.mon_alarms.proofs.announcing.note.Given as goal

-- the rules after the changes so far
abbrev pub invariant-loop-change : goal.invariant-loop-change
invariant-loop-change l = l.rules.items ≡ noted_from 0 l.fn.rules.items (take l.change-index l.changes)
