use Rattle.mon_carry.proofs.Alike.{carry_alike}
use Rattle.mon_carry.proofs.laws.carry_alike.Goals as goal

pub returns : goal.returns
returns c = carry_alike
