use Rattle.std.proofs.Common.{arith}
use Rattle.std.proofs.lemmas.Grind.{common_steps}
use Rattle.mon_settings.specs.StationTables.{alarm_of}
use Rattle.mon_settings.proofs.station_tables.AlarmRowRowAround.read.Goals as goal

pub returns : goal.returns
unfolding alarm_of
returns c = grind (arith, common_steps)

pub returns-in-Err : goal.returns-in-Err
unfolding alarm_of
returns-in-Err c = grind (arith, common_steps)

pub returns-in-Err-hex : goal.returns-in-Err-hex
unfolding alarm_of
returns-in-Err-hex c = grind (arith, common_steps)

pub returns-in-Err-object : goal.returns-in-Err-object
unfolding alarm_of
returns-in-Err-object c = grind (arith, common_steps)

pub returns-in-Err-long : goal.returns-in-Err-long
unfolding alarm_of
returns-in-Err-long c = grind (arith, common_steps)
