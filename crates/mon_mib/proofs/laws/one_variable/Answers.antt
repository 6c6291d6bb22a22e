use Rattle.mon_mib.proofs.Unique.{one_variable}
use Rattle.mon_mib.proofs.laws.one_variable.Goals as goal

pub returns : goal.returns
returns c = one_variable
