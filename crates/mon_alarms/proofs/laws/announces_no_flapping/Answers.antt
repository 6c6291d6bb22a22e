use Rattle.mon_alarms.proofs.Looking.{announced_restless}
use Rattle.mon_alarms.proofs.laws.announces_no_flapping.Goals as goal

pub returns : goal.returns
returns c = announced_restless
