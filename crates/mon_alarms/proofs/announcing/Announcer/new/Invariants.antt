use Rattle.std.proofs.Common.{◌≡◌, map, take}
use Rattle.mon_alarms.specs.Announcing.{settled}
use Rattle.mon_alarms.proofs.announcing.Announcer.new.Given as goal

-- those so far are settled
abbrev pub invariant-loop-state : goal.invariant-loop-state
invariant-loop-state l = l.rules.items ≡ map settled (take l.state-index l.states)
