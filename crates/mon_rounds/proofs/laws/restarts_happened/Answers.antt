use Rattle.mon_rounds.proofs.Restarts.{none_said, restart_happened}
use Rattle.mon_rounds.proofs.laws.restarts_happened.Goals as goal

pub returns-clause-happened : goal.returns-clause-happened
returns-clause-happened c = λ number answered clock r e. restart_happened number r answered clock e

pub returns-clause-none : goal.returns-clause-none
returns-clause-none c = none_said
