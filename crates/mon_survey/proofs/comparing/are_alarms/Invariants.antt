use Rattle.std.proofs.Common.{ℕ, ◌<◌, get_or}
use Rattle.mon_alarms.specs.Rule.{Rule}
use Rattle.mon_survey.specs.declared.comparing.Alarm.{Alarm}
use Rattle.mon_survey.specs.Meant.{IsAlarm}
use Rattle.mon_survey.proofs.comparing.are_alarms.Given as goal

-- they agree so far
abbrev pub invariant-loop-place : goal.invariant-loop-place
invariant-loop-place l = (k : ℕ) (d : Rule) (e : Alarm) → k < l.place → IsAlarm (get_or l.rules k d) (get_or l.alarms k e)
