use Rattle.mon_exchange.proofs.Claims.{one_meaning}
use Rattle.mon_exchange.proofs.laws.one_spelling.Goals as goal

pub returns-clause-meaning : goal.returns-clause-meaning
returns-clause-meaning c = one_meaning c.samples.ensures.again
