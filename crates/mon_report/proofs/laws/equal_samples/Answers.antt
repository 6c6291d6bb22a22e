use Rattle.std.proofs.Common.{ap}
use Rattle.std.proofs.Math.Path.{fun_ext}
use Rattle.mon_report.specs.Report.{report}
use Rattle.mon_report.proofs.laws.equal_samples.Goals as goal
use Rattle.mon_board.proofs.Promised.{kept_within}

pub returns : goal.returns
returns c watch some others more less =
    ap (report watch) (fun_ext (λ i. c.windows_meet.ensures watch some others i
    (λ s h. more i s (kept_within watch i _ s h))
    (λ s h. less i s (kept_within watch i _ s h))))
