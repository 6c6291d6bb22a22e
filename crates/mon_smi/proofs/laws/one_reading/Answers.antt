use Rattle.mon_smi.proofs.Exact.{means_once}
use Rattle.mon_smi.proofs.laws.one_reading.Goals as goal

pub returns : goal.returns
returns c = means_once c.one_reading.ensures
