use Rattle.mon_mib.proofs.Swapping.{undone}
use Rattle.mon_mib.proofs.laws.undone.Goals as goal

pub returns : goal.returns
returns c = undone
