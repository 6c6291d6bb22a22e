use Rattle.std.proofs.Common.{arith}
use Rattle.std.proofs.lemmas.Grind.{common_steps}
use Rattle.mon_survey.proofs.surveying.confirm.Goals as goal

pub returns-clause-gives : goal.returns-clause-gives
returns-clause-gives c = grind (arith, common_steps)

pub returns-in-Err-clause-fault : goal.returns-in-Err-clause-fault
returns-in-Err-clause-fault c = grind (arith, common_steps)
