use Rattle.std.proofs.Common.{◌≡◌, ◌++◌, drop}
use Rattle.mon_report.specs.Report.{alarms_from}
use Rattle.mon_report.proofs.report.Entry.alarms.Given as goal

-- the alarms so far, and those that are left
abbrev pub invariant-loop-place : goal.invariant-loop-place
invariant-loop-place l =
    l.alarms.items ++ alarms_from l.self-inside.states.now l.self-inside.instance l.self-inside.samples.now l.place (drop l.place l.self-inside.rules.now)
    ≡ alarms_from l.self-inside.states.now l.self-inside.instance l.self-inside.samples.now 0 l.self-inside.rules.now
