use Rattle.mon_alarms.proofs.Reported.{reports_once}
use Rattle.mon_alarms.proofs.laws.reports_once.Goals as goal

pub returns : goal.returns
returns c = reports_once
