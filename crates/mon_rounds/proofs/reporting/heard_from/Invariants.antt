use Rattle.std.proofs.Common.{◌≡◌, take, false}
use Rattle.mon_rounds.specs.Noted.{heard_from}
use Rattle.mon_rounds.proofs.reporting.heard_from.Given as goal

-- those so far are none
abbrev pub invariant-loop-event : goal.invariant-loop-event
invariant-loop-event l = heard_from l.address (take l.event-index l.events) ≡ false
