use Rattle.mon_alarms.proofs.Reported.{names_the_last}
use Rattle.mon_alarms.proofs.laws.names_the_last.Goals as goal

pub returns : goal.returns
returns c = names_the_last
