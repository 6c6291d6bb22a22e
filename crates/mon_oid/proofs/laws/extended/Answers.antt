use Rattle.mon_oid.proofs.Extended.{extended}
use Rattle.mon_oid.proofs.laws.extended.Goals as goal

pub returns : goal.returns
returns c = extended
