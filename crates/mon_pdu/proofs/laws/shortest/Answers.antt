use Rattle.mon_ber.proofs.Promised.{all_bytes}
use Rattle.mon_pdu.proofs.Shortest.{message_shortest, bytes_all}
use Rattle.mon_pdu.proofs.laws.shortest.Goals as goal

pub returns : goal.returns
returns c = λ text m octets. message_shortest (λ bytes v octets. c.shortest.ensures bytes v (bytes_all bytes octets)) text m (all_bytes text octets)
