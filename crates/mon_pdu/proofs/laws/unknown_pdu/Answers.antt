use Rattle.mon_ber.proofs.Promised.{all_bytes}
use Rattle.mon_pdu.proofs.Whole.{unknown_from, unknown_again}
use Rattle.mon_pdu.proofs.laws.unknown_pdu.Goals as goal

pub returns : goal.returns
returns c = λ bytes t octets. (unknown_from bytes t (all_bytes bytes octets), unknown_again bytes t)
