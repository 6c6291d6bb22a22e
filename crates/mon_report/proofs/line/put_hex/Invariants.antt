use Rattle.std.proofs.Common.{take}
use Rattle.std.specs.List.{flat_map}
use Rattle.mon_report.specs.Written.{AppendsIf}
use Rattle.mon_report.proofs.Loops.{octet_text}
use Rattle.mon_report.proofs.line.put_hex.Given as goal

-- those so far are written
abbrev pub invariant-loop-octet : goal.invariant-loop-octet
invariant-loop-octet g l = AppendsIf (g.W.Write.contents l.fn.writer) l.fn.ok (g.W.Write.contents l.writer) l.ok (flat_map octet_text (take l.octet-index l.octets))
