use Rattle.mon_pdu.proofs.Spelled.{message_read_back}
use Rattle.mon_pdu.proofs.laws.round_trip.Goals as goal

pub returns : goal.returns
returns c = message_read_back
