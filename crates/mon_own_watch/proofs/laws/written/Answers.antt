use Rattle.mon_own_watch.proofs.Kept.{is_written}
use Rattle.mon_own_watch.proofs.laws.written.Goals as goal

pub returns : goal.returns
returns c = is_written
