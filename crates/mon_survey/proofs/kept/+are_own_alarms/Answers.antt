use Rattle.std.proofs.Common.{arith}
use Rattle.std.proofs.lemmas.Grind.{common_steps}
use Rattle.mon_survey.proofs.kept.+are_own_alarms.Goals as goal

pub returns-then-is_alarm : goal.returns-then-is_alarm
returns-then-is_alarm t c = grind (arith, common_steps)

pub returns-else-is_alarm : goal.returns-else-is_alarm
returns-else-is_alarm t c = grind (arith, common_steps)

pub returns-then-not-is_on : goal.returns-then-not-is_on
returns-then-not-is_on t c = grind (arith, common_steps)

pub returns-in_default-alarms : goal.returns-in_default-alarms
returns-in_default-alarms t c = grind (arith, common_steps)
