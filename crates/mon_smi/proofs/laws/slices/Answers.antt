use Rattle.mon_smi.proofs.ForText.{tokens_stand}
use Rattle.mon_smi.proofs.laws.slices.Goals as goal

pub returns : goal.returns
returns c = tokens_stand
