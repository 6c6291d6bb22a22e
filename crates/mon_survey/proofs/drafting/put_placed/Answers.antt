use Rattle.std.proofs.Common.{arith}
use Rattle.std.proofs.lemmas.Grind.{common_steps}
use Rattle.mon_survey.specs.Text.{placed_text}
use Rattle.mon_survey.proofs.drafting.put_placed.Goals as goal

pub returns : goal.returns
unfolding placed_text
returns g c = grind (arith, common_steps)
