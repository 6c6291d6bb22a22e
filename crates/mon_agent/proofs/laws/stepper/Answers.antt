use Rattle.mon_vacm.specs.View.{IsInView}
use Rattle.mon_agent.proofs.Stepping.{stepper}
use Rattle.mon_agent.proofs.laws.stepper.Goals as goal

pub returns : goal.returns
returns c = λ k families view. stepper k (IsInView families view) (c.decided.ensures families view) (c.variables.ensures k)
