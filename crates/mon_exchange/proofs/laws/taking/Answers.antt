use Rattle.mon_exchange.proofs.Said.{still_told}
use Rattle.mon_exchange.proofs.laws.taking.Goals as goal

pub returns : goal.returns
returns c = still_told
