use Rattle.std.proofs.Common.{arith}
use Rattle.std.proofs.lemmas.Grind.{common_steps}
use Rattle.mon_survey.proofs.labelled.+continues.Goals as goal

pub returns : goal.returns
returns t c = grind (arith, common_steps)
