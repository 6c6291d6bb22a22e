use Rattle.std.proofs.Common.{arith}
use Rattle.std.proofs.lemmas.Grind.{common_steps}
use Rattle.mon_survey.proofs.labelled.+has_engine.Goals as goal

pub returns-then-is_of : goal.returns-then-is_of
returns-then-is_of t c = grind (arith, common_steps)

pub returns-else-is_of : goal.returns-else-is_of
returns-else-is_of t c = grind (arith, common_steps)
