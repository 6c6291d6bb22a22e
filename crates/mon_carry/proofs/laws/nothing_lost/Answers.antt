use Rattle.mon_carry.proofs.Alike.{nothing_lost}
use Rattle.mon_carry.proofs.laws.nothing_lost.Goals as goal

pub returns : goal.returns
returns c = nothing_lost c.bound.ensures.all c.bound.ensures.keep_few
