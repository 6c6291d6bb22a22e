use Rattle.std.proofs.Common.{arith}
use Rattle.std.proofs.lemmas.Grind.{common_steps}
use Rattle.mon_survey.specs.Text.{settings_text}
use Rattle.mon_survey.proofs.drafting.put_settings.Goals as goal

pub returns : goal.returns
unfolding settings_text
returns g c = grind (arith, common_steps)
