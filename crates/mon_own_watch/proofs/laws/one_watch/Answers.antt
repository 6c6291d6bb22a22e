use Rattle.mon_own_watch.proofs.Watches.{one}
use Rattle.mon_own_watch.proofs.laws.one_watch.Goals as goal

pub returns : goal.returns
returns c = one c.samples.ensures.again
