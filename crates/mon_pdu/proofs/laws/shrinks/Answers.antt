use Rattle.mon_pdu.proofs.Sizes.{error_shrinks}
use Rattle.mon_pdu.proofs.laws.shrinks.Goals as goal

pub returns : goal.returns
returns c = error_shrinks
