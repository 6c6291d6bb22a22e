use Rattle.mon_pdu.proofs.Sizes.{message_grows}
use Rattle.mon_pdu.proofs.laws.grows.Goals as goal

pub returns : goal.returns
returns c = message_grows
