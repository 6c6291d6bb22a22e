use Rattle.mon_alarms.proofs.Looking.{announced_lasting, leads_to_lasting}
use Rattle.mon_alarms.proofs.laws.announces_what_lasts.Goals as goal

pub returns : goal.returns
returns c = record { once = announced_lasting; leads = leads_to_lasting }
