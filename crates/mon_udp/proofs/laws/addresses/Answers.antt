use Rattle.mon_udp.proofs.Addrs.{addr_texts}
use Rattle.mon_udp.proofs.laws.addresses.Goals as goal

pub returns : goal.returns
returns c = addr_texts
