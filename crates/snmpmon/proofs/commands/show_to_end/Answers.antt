use Rattle.std.specs.Prelude.{false}
use Rattle.snmpmon.specs.Start.{IsShown}
use Rattle.snmpmon.proofs.Runs.{ends}
use Rattle.snmpmon.proofs.commands.show_to_end.Goals as goal

pub returns : goal.returns
returns g c = ends false IsShown c.show-shown.result c.end.result _ _ _ c.show-shown.ensures c.end.ensures
