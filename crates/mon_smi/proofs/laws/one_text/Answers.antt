use Rattle.mon_smi.proofs.Named.{one_text}
use Rattle.mon_smi.proofs.laws.one_text.Goals as goal

pub returns : goal.returns
returns c = one_text
