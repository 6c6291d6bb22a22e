use Rattle.std.proofs.Common.{◌≡◌, map, take}
use Rattle.mon_alarms.proofs.announcing.Announcer.states.Given as goal

-- the states so far
abbrev pub invariant-loop-pending : goal.invariant-loop-pending
invariant-loop-pending l = l.states.items ≡ map (λ p. p.announced) (take l.pending-index l.pending-items)
