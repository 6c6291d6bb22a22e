use Rattle.std.proofs.Common.{ap}
use Rattle.std.proofs.Math.Path.{fun_ext}
use Rattle.mon_formats.specs.Formats.{report_in}
use Rattle.mon_formats.proofs.laws.equal_samples.Goals as goal
use Rattle.mon_board.proofs.Promised.{kept_within}

pub returns : goal.returns
returns c format shown watch some others station labels presentation more less =
    ap (λ windows. report_in format shown watch windows station labels presentation) (fun_ext (λ i. c.windows_meet.ensures watch some others i
    (λ s h. more i s (kept_within watch i _ s h))
    (λ s h. less i s (kept_within watch i _ s h))))
