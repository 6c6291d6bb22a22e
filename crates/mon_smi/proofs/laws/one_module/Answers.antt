use Rattle.mon_smi.proofs.ForText.{one_module}
use Rattle.mon_smi.proofs.laws.one_module.Goals as goal

pub returns : goal.returns
returns c = one_module
