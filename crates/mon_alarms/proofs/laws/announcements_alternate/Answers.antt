use Rattle.mon_alarms.proofs.Looking.{announcements_alternate}
use Rattle.mon_alarms.proofs.laws.announcements_alternate.Goals as goal

pub returns : goal.returns
returns c = announcements_alternate
