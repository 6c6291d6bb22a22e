use Rattle.mon_ber.proofs.Values.{value_again}
use Rattle.mon_ber.proofs.laws.read_back.Goals as goal

pub returns : goal.returns
returns c = value_again
