use Rattle.mon_ber.proofs.Promised.{all_bytes}
use Rattle.mon_pdu.proofs.Whole.{begins_takes}
use Rattle.mon_pdu.proofs.laws.takes.Goals as goal

pub returns : goal.returns
returns c = λ bytes m octets. begins_takes bytes m (all_bytes bytes octets)
