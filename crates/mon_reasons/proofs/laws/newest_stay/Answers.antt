use Rattle.mon_reasons.proofs.Limited.{newest_own, others_stay}
use Rattle.mon_reasons.proofs.laws.newest_stay.Goals as goal

pub returns-clause-others : goal.returns-clause-others
returns-clause-others c = λ from most all. others_stay from most all

pub returns-clause-own : goal.returns-clause-own
returns-clause-own c = λ from most all. newest_own from most all
