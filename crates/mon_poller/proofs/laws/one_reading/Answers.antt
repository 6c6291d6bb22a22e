use Rattle.mon_poller.proofs.Readings.{one_reading}
use Rattle.mon_poller.proofs.laws.one_reading.Goals as goal

pub returns : goal.returns
returns c = one_reading c.again.ensures
