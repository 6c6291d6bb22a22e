use Rattle.mon_mib.proofs.Starts.{apart}
use Rattle.mon_mib.proofs.laws.apart.Goals as goal

pub returns : goal.returns
returns c = apart
