use Rattle.std.proofs.Common.{◌≡◌, take}
use Rattle.mon_rounds.specs.Noted.{notices_of}
use Rattle.mon_rounds.proofs.reporting.notices_of.Given as goal

-- the notices of the events so far
abbrev pub invariant-loop-place : goal.invariant-loop-place
invariant-loop-place l = l.notices.items ≡ notices_of l.round.targets (take l.place l.events) (take l.place l.answers)
