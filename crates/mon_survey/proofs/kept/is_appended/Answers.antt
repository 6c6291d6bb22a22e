use Rattle.std.proofs.Common.{arith}
use Rattle.std.proofs.lemmas.Grind.{common_steps}
use Rattle.mon_survey.proofs.kept.is_appended.Goals as goal

pub returns-then-targets : goal.returns-then-targets
returns-then-targets c = grind (arith, common_steps)

pub returns-else-targets : goal.returns-else-targets
returns-else-targets c = grind (arith, common_steps)
