use Rattle.mon_alarms.proofs.Looking.{announced_happened}
use Rattle.mon_alarms.proofs.laws.announces_events.Goals as goal

pub returns : goal.returns
returns c = announced_happened
