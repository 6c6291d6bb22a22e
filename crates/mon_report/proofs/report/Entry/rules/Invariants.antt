use Rattle.std.proofs.Common.{◌≡◌, take}
use Rattle.mon_report.specs.Report.{rules_on}
use Rattle.mon_report.proofs.report.Entry.rules.Given as goal

-- those so far are found
abbrev pub invariant-loop-rule : goal.invariant-loop-rule
invariant-loop-rule l = l.rules.items ≡ rules_on l.self-inside.instance (take l.rule-index l.self-inside.rules.now)
