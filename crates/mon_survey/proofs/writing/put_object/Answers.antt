use Rattle.std.proofs.Common.{arith}
use Rattle.std.proofs.lemmas.Grind.{common_steps}
use Rattle.mon_survey.specs.Text.{object_text}
use Rattle.mon_survey.proofs.writing.put_object.Goals as goal

pub returns : goal.returns
unfolding object_text
returns g c = grind (arith, common_steps)
