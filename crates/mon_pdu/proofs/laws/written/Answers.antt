use Rattle.mon_pdu.proofs.Spelled.{message_spelled}
use Rattle.mon_pdu.proofs.laws.written.Goals as goal

pub returns : goal.returns
returns c = message_spelled
