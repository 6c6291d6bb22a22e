use Rattle.mon_smi.proofs.Standing.{numbers_are}
use Rattle.mon_smi.proofs.laws.parents.Goals as goal

pub returns : goal.returns
returns c = numbers_are
