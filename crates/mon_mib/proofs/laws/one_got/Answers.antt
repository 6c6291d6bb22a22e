use Rattle.mon_mib.proofs.Unique.{one_got}
use Rattle.mon_mib.proofs.laws.one_got.Goals as goal

pub returns : goal.returns
returns c = one_got
