use Rattle.std.proofs.Common.{arith}
use Rattle.std.proofs.lemmas.Grind.{common_steps}
use Rattle.mon_formats.specs.Json.{alarm_data}
use Rattle.mon_formats.proofs.Arrays.{all_made}
use Rattle.mon_formats.proofs.as_json.array_of_alarms.Goals as goal

pub returns : goal.returns
returns c = all_made alarm_data c.args.alarms.now c.loop-alarm.values c.loop-alarm.alarm-index c.loop-alarm-test.false c.loop-alarm.invariant

pub loop-alarm-preserved : goal.loop-alarm-preserved
loop-alarm-preserved c = grind (arith, common_steps)
