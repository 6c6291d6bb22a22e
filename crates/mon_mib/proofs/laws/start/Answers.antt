use Rattle.mon_mib.proofs.Starts.{start_exact}
use Rattle.mon_mib.proofs.laws.start.Goals as goal

pub returns : goal.returns
returns c = start_exact
