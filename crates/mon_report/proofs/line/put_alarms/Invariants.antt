use Rattle.std.proofs.Common.{take, ◌==◌}
use Rattle.std.specs.List.{flat_map}
use Rattle.mon_report.specs.Written.{AppendsIf}
use Rattle.mon_report.specs.Report.{alarm_text}
use Rattle.mon_report.proofs.Loops.{text_where}
use Rattle.mon_report.proofs.line.put_alarms.Given as goal

-- those so far are written
abbrev pub invariant-loop-rule : goal.invariant-loop-rule
invariant-loop-rule g l = AppendsIf (g.W.Write.contents l.fn.writer) l.fn.ok (g.W.Write.contents l.writer) l.ok (flat_map (text_where (λ r. r.instance == l.instance) (alarm_text l.samples)) (take l.rule-index l.rules))
