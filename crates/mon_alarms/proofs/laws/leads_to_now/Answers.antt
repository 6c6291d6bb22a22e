use Rattle.mon_alarms.proofs.Reported.{leads_to_now}
use Rattle.mon_alarms.proofs.laws.leads_to_now.Goals as goal

pub returns : goal.returns
returns c = leads_to_now
