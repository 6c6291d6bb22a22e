use Rattle.std.proofs.Common.{◌≡◌, ◌++◌, drop}
use Rattle.mon_report.specs.Alarms.{raised_from}
use Rattle.mon_report.proofs.alarms.raised_alarms.Given as goal

-- the alarms so far, and those that are left
abbrev pub invariant-loop-number : goal.invariant-loop-number
invariant-loop-number l = l.raised.items ++ raised_from l.board l.number (drop l.number l.rules) ≡ raised_from l.board 0 l.rules
