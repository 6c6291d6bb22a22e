use Rattle.mon_vacm.proofs.Decided.{decided}
use Rattle.mon_vacm.proofs.laws.decided.Goals as goal

pub returns : goal.returns
returns c = decided
