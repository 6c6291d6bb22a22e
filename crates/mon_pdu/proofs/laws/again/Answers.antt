use Rattle.mon_pdu.proofs.Whole.{begins_again}
use Rattle.mon_pdu.proofs.laws.again.Goals as goal

pub returns : goal.returns
returns c = begins_again
