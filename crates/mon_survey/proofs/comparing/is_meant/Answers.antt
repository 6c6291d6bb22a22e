use Rattle.std.proofs.Common.{arith}
use Rattle.std.proofs.lemmas.Grind.{common_steps}
use Rattle.mon_survey.proofs.comparing.is_meant.Goals as goal

pub returns-then-alarms : goal.returns-then-alarms
returns-then-alarms c = grind (arith, common_steps)

pub returns-else-alarms : goal.returns-else-alarms
returns-else-alarms c = grind (arith, common_steps)
