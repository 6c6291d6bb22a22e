use Rattle.mon_mib.proofs.Rising.{variables_rise}
use Rattle.mon_mib.proofs.laws.variables_rise.Goals as goal

pub returns : goal.returns
returns c = variables_rise
