use Rattle.mon_ber.proofs.Promised.{all_bytes}
use Rattle.mon_pdu.proofs.Shortest.{message_rewritable, bytes_all}
use Rattle.mon_pdu.proofs.laws.rewritable.Goals as goal

pub returns : goal.returns
returns c = λ text m octets. message_rewritable (λ bytes v octets. c.shortest.ensures bytes v (bytes_all bytes octets)) text m (all_bytes text octets)
