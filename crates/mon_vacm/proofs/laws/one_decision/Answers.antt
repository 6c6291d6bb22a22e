use Rattle.mon_vacm.proofs.Exclusive.{one_decision}
use Rattle.mon_vacm.proofs.laws.one_decision.Goals as goal

pub returns : goal.returns
returns c = one_decision
