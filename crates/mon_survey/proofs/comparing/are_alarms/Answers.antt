use Rattle.std.proofs.Common.{◌≡◌, length, arith, refl}
use Rattle.mon_survey.specs.Meant.{IsAlarm}
use Rattle.mon_survey.proofs.Zips.{each_place, not_as_long, not_here}
use Rattle.mon_survey.proofs.comparing.are_alarms.Goals as goal

pub returns-then-rules-alarms : goal.returns-then-rules-alarms
returns-then-rules-alarms c = not_as_long (IsAlarm) c.args.rules.now c.args.alarms.now c.if-rules-alarms.true

pub returns-then-not-is_alarm : goal.returns-then-not-is_alarm
returns-then-not-is_alarm c =
    not_here (IsAlarm) c.args.rules.now c.args.alarms.now c.loop-place.place c.index-rules-place.result _ c.index-rules-place.result _ c.is_alarm.result (omega (arith, c.if-rules-alarms.false)) (omega (arith, c.loop-place-test.true)) c.index-rules-place.is refl
    c.is_alarm.ensures c.if-not-is_alarm.true

pub returns : goal.returns
returns c =
    let long : length c.args.rules.now ≡ length c.args.alarms.now = omega (arith, c.if-rules-alarms.false) in
    each_place (IsAlarm) c.args.rules.now c.args.alarms.now long (λ k d e lt. c.loop-place.invariant k d e (omega (arith, c.loop-place-test.false, c.loop-place.auto.place-end)))
