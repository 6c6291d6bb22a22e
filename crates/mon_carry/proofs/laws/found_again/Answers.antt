use Rattle.mon_carry.proofs.Alike.{found_again}
use Rattle.mon_carry.proofs.laws.found_again.Goals as goal

pub returns : goal.returns
returns c = found_again c.read_back.ensures.same
