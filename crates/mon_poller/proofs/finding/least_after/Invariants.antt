use Rattle.mon_poller.proofs.Slots.{IsLeast}
use Rattle.mon_poller.proofs.finding.least_after.Given as goal

-- the least request-id of the slots so far that is greater
abbrev pub invariant-loop-key : goal.invariant-loop-key
invariant-loop-key l = IsLeast l.polls l.id l.key l.least
