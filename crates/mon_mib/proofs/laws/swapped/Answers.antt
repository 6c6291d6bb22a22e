use Rattle.mon_mib.proofs.Swapping.{swapped}
use Rattle.mon_mib.proofs.laws.swapped.Goals as goal

pub returns : goal.returns
returns c = swapped
