use Rattle.mon_mib.proofs.Starts.{cut}
use Rattle.mon_mib.proofs.start.start_apart.Goals as goal

pub returns-in_default : goal.returns-in_default
returns-in_default c = cut _ c.loop-part.rest.now _ c.in_default.len_below c.loop-part.invariant
