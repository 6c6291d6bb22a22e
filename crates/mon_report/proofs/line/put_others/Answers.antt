use Rattle.mon_report.specs.Report.{dot_text}
use Rattle.mon_report.proofs.Loops.{text-more, text-all}
use Rattle.mon_report.proofs.line.put_others.Goals as goal

pub loop-part-preserved : goal.loop-part-preserved
loop-part-preserved g c =
    text-more dot_text c.args.parts.now c.loop-part.part-index 0 _ _ _ _ _ _ c.loop-part-test.true c.loop-part.invariant c.put_part-ok.ensures

pub returns : goal.returns
returns g c = text-all dot_text c.args.parts.now c.loop-part.part-index _ _ _ _ c.loop-part-test.false c.loop-part.invariant
