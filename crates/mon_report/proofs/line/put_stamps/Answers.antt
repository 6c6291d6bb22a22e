use Rattle.std.proofs.Common.{◌++◌, codes}
use Rattle.mon_report.specs.Report.{stamp_text}
use Rattle.mon_report.proofs.Written.{text-then, text-as}
use Rattle.mon_report.proofs.line.put_stamps.Goals as goal

pub returns : goal.returns
returns g c =
    text-as _ _ _ _ _ _
    (λ i. (stamp_text (c.boots.ensures.boots i) (c.time.ensures.time i) ++ codes "..") ++ stamp_text (c.boots-2.ensures.boots i) (c.time-2.ensures.time i))
    (text-then _ _ _ _ _ _ _ _ (text-then _ _ _ _ _ _ _ _ c.put_stamp-ok.ensures c.put-ok.ensures) c.put_stamp.ensures)
