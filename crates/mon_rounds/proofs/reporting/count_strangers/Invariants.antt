use Rattle.std.proofs.Common.{◌≡◌, ◌-◌, ◌^◌, length, take}
use Rattle.std.specs.Prelude.{filter, min}
use Rattle.mon_rounds.specs.Noted.{is_stranger}
use Rattle.mon_rounds.proofs.reporting.count_strangers.Given as goal

-- those so far are counted
abbrev pub invariant-loop-event : goal.invariant-loop-event
invariant-loop-event l = l.count ≡ min (length (filter (is_stranger l.round.targets) (take l.event-index l.events))) (2 ^ 32 - 1)
