use Rattle.mon_mib.proofs.Typed.{typed}
use Rattle.mon_mib.proofs.laws.typed.Goals as goal

pub returns : goal.returns
returns c = typed
