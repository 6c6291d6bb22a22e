use Rattle.mon_exchange.proofs.Said.{owed_as_told}
use Rattle.mon_exchange.proofs.laws.owing.Goals as goal

pub returns : goal.returns
returns c = owed_as_told
