use Rattle.std.proofs.Common.{arith}
use Rattle.std.proofs.lemmas.Grind.{common_steps}
use Rattle.mon_survey.proofs.kept.+are_same_texts.Goals as goal

pub returns-then-is_same_text : goal.returns-then-is_same_text
returns-then-is_same_text t c = grind (arith, common_steps)

pub returns-else-is_same_text : goal.returns-else-is_same_text
returns-else-is_same_text t c = grind (arith, common_steps)

pub returns-in_default-new : goal.returns-in_default-new
returns-in_default-new t c = grind (arith, common_steps)
