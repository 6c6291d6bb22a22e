use Rattle.mon_report.proofs.Ranges.{states-from}
use Rattle.mon_report.proofs.report.states_from.Goals as goal

pub returns : goal.returns
returns c = states-from c.args.states.now c.args.first c.min.result c.min.ensures
