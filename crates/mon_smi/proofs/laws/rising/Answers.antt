use Rattle.mon_smi.proofs.ForText.{tokens_rise}
use Rattle.mon_smi.proofs.laws.rising.Goals as goal

pub returns : goal.returns
returns c = tokens_rise
