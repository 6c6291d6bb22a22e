use Rattle.std.proofs.Common.{◌∙◌}
use Rattle.mon_serving.specs.Served.{stands}
use Rattle.mon_commands.proofs.agent.told_answers.Goals as goal

pub returns : goal.returns
returns g c = (stands c.answer_lines.new.agent, c.as_ref.result, c.as_ref.ensures.value ∙ c.in_ok-labels.ensures, c.in_ok-answer_lines.ensures.printed)
