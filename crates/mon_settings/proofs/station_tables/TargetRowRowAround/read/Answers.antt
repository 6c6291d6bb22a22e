use Rattle.std.proofs.Common.{arith}
use Rattle.std.proofs.lemmas.Grind.{common_steps}
use Rattle.mon_settings.specs.StationTables.{target_of}
use Rattle.mon_settings.proofs.station_tables.TargetRowRowAround.read.Goals as goal

pub returns : goal.returns
unfolding target_of
returns c = grind (arith, common_steps)

pub returns-in-Err : goal.returns-in-Err
unfolding target_of
returns-in-Err c = grind (arith, common_steps)

pub returns-in-Err-addr : goal.returns-in-Err-addr
unfolding target_of
returns-in-Err-addr c = grind (arith, common_steps)

pub returns-in-Err-octets : goal.returns-in-Err-octets
unfolding target_of
returns-in-Err-octets c = grind (arith, common_steps)

pub returns-in-Err-hex : goal.returns-in-Err-hex
unfolding target_of
returns-in-Err-hex c = grind (arith, common_steps)

pub returns-in-Err-number : goal.returns-in-Err-number
unfolding target_of
returns-in-Err-number c = grind (arith, common_steps)

pub returns-in-Err-rows : goal.returns-in-Err-rows
unfolding target_of
returns-in-Err-rows c = grind (arith, common_steps)

pub returns-in-Err-label : goal.returns-in-Err-label
unfolding target_of
returns-in-Err-label c = grind (arith, common_steps)
