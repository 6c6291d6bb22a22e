use Rattle.mon_rounds.proofs.Waited.{waiting_ends}
use Rattle.mon_rounds.proofs.laws.waiting_ends.Goals as goal

pub returns : goal.returns
returns c = waiting_ends
