use Rattle.std.proofs.Common.{subst}
use Rattle.mon_report.specs.Report.{totals_text, rate_text}
use Rattle.mon_report.specs.Written.{AppendsIf}
use Rattle.mon_report.proofs.Written.{text-then}
use Rattle.mon_report.proofs.line.put_totals.Goals as goal

pub returns : goal.returns
unfolding totals_text
returns g c =
    let head = text-then _ _ _ _ _ _ _ _ c.put-ok.ensures c.put_wide-ok.ensures in
    let span = text-then _ _ _ _ _ _ _ _ (text-then _ _ _ _ _ _ _ _ head c.put-ok-2.ensures) c.put_number-ok.ensures in
    let rate = subst (λ o. AppendsIf (g.W.Write.contents c.put-ok-3.new.writer) c.put-ok-3.result (g.W.Write.contents c.put_rate.new.writer) c.put_rate.result (rate_text o)) c.thousandths.ensures c.put_rate.ensures in
    text-then _ _ _ _ _ _ _ _ (text-then _ _ _ _ _ _ _ _ span c.put-ok-3.ensures) rate
