use Rattle.mon_report.proofs.Written.{text-then}
use Rattle.mon_report.proofs.line.put_raised.Goals as goal

pub returns : goal.returns
returns g c = text-then _ _ _ _ _ _ _ _ c.put-ok.ensures c.put_stamp.ensures
