use Rattle.std.proofs.Common.{ap, sym}
use Rattle.mon_report.specs.Report.{entry_line, entry_rest}
use Rattle.mon_report.proofs.Written.{text-then, text-as}
use Rattle.mon_report.proofs.report.write_entry.Goals as goal

pub returns : goal.returns
unfolding entry_line
returns g c =
    rw (← c.entry.view_is) (text-then _ _ _ _ _ _ _ _
    (text-then _ _ _ _ _ _ _ _ (text-then _ _ _ _ _ _ _ _ c.put_hex-ok.ensures c.put-ok.ensures) c.put_name-ok.ensures)
    (text-as _ _ _ _ _ _ (ap entry_rest (sym c.entry.view_is)) c.write_rest.ensures))
