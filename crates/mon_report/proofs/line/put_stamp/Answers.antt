use Rattle.std.proofs.Common.{subst}
use Rattle.mon_report.specs.Report.{stamp_text}
use Rattle.mon_report.specs.Written.{AppendsIf}
use Rattle.mon_report.proofs.Written.{text-then}
use Rattle.mon_report.proofs.line.put_stamp.Goals as goal

pub returns : goal.returns
returns g c =
    let whole = text-then _ _ _ _ _ _ _ _ (text-then _ _ _ _ _ _ _ _ c.put_number-ok.ensures c.put-ok.ensures) c.put_number.ensures in
    subst (λ n. AppendsIf (g.W.Write.contents c.args.writer.now) c.args.ok (g.W.Write.contents c.put_number.new.writer) c.put_number.result (stamp_text n c.args.time)) c.from.ensures
    (subst (λ n. AppendsIf (g.W.Write.contents c.args.writer.now) c.args.ok (g.W.Write.contents c.put_number.new.writer) c.put_number.result (stamp_text c.from.result n)) c.from-2.ensures whole)
