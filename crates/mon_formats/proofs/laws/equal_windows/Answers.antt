use Rattle.std.proofs.Common.{ap}
use Rattle.std.proofs.Math.Path.{fun_ext}
use Rattle.mon_formats.specs.Formats.{report_in}
use Rattle.mon_formats.proofs.laws.equal_windows.Goals as goal

pub returns : goal.returns
returns c format shown watch some others station labels presentation same = ap (λ windows. report_in format shown watch windows station labels presentation) (fun_ext same)
