use Rattle.mon_ber.proofs.Shortest.{shortest}
use Rattle.mon_ber.proofs.laws.shortest.Goals as goal

pub returns : goal.returns
returns c = shortest
