use Rattle.std.proofs.Common.{ap}
use Rattle.std.proofs.Math.Path.{fun_ext}
use Rattle.mon_report.specs.Report.{report}
use Rattle.mon_report.proofs.laws.equal_windows.Goals as goal

pub returns : goal.returns
returns c watch some others same = ap (report watch) (fun_ext same)
