use Rattle.snmpmon.proofs.Runs.{shown, unshown}
use Rattle.snmpmon.proofs.commands.show.Goals as goal

pub returns-in_err-text : goal.returns-in_err-text
returns-in_err-text g c = unshown c.from_residual.result _ c.from_residual.ensures.1

pub returns : goal.returns
returns g c = shown c.as_bytes.result.now c.print.result _ _ c.print.ensures
