use Rattle.mon_ber.proofs.Shortest.{all_bytes}
use Rattle.mon_ber.proofs.Values.{value_takes}
use Rattle.mon_ber.proofs.laws.taken.Goals as goal

pub returns : goal.returns
returns c = λ bytes v rest octets. value_takes bytes v rest (all_bytes bytes octets)
