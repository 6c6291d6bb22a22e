use Rattle.mon_oid.proofs.Extended.{pushed}
use Rattle.mon_oid.proofs.laws.pushed.Goals as goal

pub returns : goal.returns
returns c = pushed
