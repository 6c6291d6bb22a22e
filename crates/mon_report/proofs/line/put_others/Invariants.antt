use Rattle.std.proofs.Common.{take}
use Rattle.std.specs.List.{flat_map}
use Rattle.mon_report.specs.Written.{AppendsIf}
use Rattle.mon_report.specs.Report.{dot_text}
use Rattle.mon_report.proofs.line.put_others.Given as goal

-- those so far are written
abbrev pub invariant-loop-part : goal.invariant-loop-part
invariant-loop-part g l = AppendsIf (g.W.Write.contents l.fn.writer) l.fn.ok (g.W.Write.contents l.writer) l.ok (flat_map dot_text (take l.part-index l.parts))
