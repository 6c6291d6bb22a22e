use Rattle.mon_report.proofs.Written.{text-as}
use Rattle.mon_report.proofs.Loops.{octet_text, hex-each, text-more, text-all}
use Rattle.mon_report.proofs.line.put_hex.Goals as goal

pub loop-octet-preserved : goal.loop-octet-preserved
loop-octet-preserved g c =
    text-more octet_text c.args.octets.now c.loop-octet.octet-index 0 _ _ _ _ _ _ c.loop-octet-test.true c.loop-octet.invariant c.put_octet-ok.ensures

pub returns : goal.returns
returns g c =
    text-as _ _ _ _ _ _ (hex-each c.args.octets.now)
    (text-all octet_text c.args.octets.now c.loop-octet.octet-index _ _ _ _ c.loop-octet-test.false c.loop-octet.invariant)
