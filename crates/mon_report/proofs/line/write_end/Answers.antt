use Rattle.mon_report.proofs.Written.{text-then}
use Rattle.mon_report.specs.Report.{end_line}
use Rattle.mon_report.proofs.line.write_end.Goals as goal

pub returns : goal.returns
unfolding end_line
returns g c =
    text-then _ _ _ _ _ _ _ _
    (text-then _ _ _ _ _ _ _ _
    (text-then _ _ _ _ _ _ _ _ (text-then _ _ _ _ _ _ _ _ c.put-ok.ensures c.put_number-ok.ensures) c.put-ok-2.ensures)
    c.put_number-ok-2.ensures)
    c.put.ensures
