use Rattle.std.proofs.Common.{◌≡◌, ◌++◌, drop, map, take}
use Rattle.mon_alarms.specs.Announcing.{after_look}
use Rattle.mon_alarms.proofs.announcing.look.Given as goal

-- the rules so far after the look, and those that are left
abbrev pub invariant-loop-number : goal.invariant-loop-number
invariant-loop-number l = take l.number l.rules.items ++ map (after_look l.after) (drop l.number l.rules.items) ≡ map (after_look l.after) l.fn.rules.items
