use Rattle.mon_report.specs.Report.{entry_rest}
use Rattle.mon_report.proofs.Written.{text-then}
use Rattle.mon_report.proofs.report.write_rest.Goals as goal

pub returns : goal.returns
unfolding entry_rest
returns g c =
    rw (← c.entry.view_is) (text-then _ _ _ _ _ _ _ _ (text-then _ _ _ _ _ _ _ _ c.put_window-ok.ensures c.put_alarms-ok.ensures) c.put.ensures)
