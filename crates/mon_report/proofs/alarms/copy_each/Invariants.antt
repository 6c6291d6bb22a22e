use Rattle.mon_report.proofs.Seen.{AreSeenTo}
use Rattle.mon_report.proofs.alarms.copy_each.Given as goal

-- the windows so far are as they are seen, and the others are as they were
abbrev pub invariant-loop-number : goal.invariant-loop-number
invariant-loop-number l = AreSeenTo l.board l.rules l.initial.windows l.windows l.number
