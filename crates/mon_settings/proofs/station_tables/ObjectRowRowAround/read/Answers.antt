use Rattle.std.proofs.Common.{arith}
use Rattle.std.proofs.lemmas.Grind.{common_steps}
use Rattle.mon_settings.specs.StationTables.{object_of}
use Rattle.mon_settings.proofs.station_tables.ObjectRowRowAround.read.Goals as goal

pub returns : goal.returns
unfolding object_of
returns c = grind (arith, common_steps)

pub returns-in-Err : goal.returns-in-Err
unfolding object_of
returns-in-Err c = grind (arith, common_steps)

pub returns-in-Err-object : goal.returns-in-Err-object
unfolding object_of
returns-in-Err-object c = grind (arith, common_steps)

pub returns-in-Err-object_or_none : goal.returns-in-Err-object_or_none
unfolding object_of
returns-in-Err-object_or_none c = grind (arith, common_steps)

pub returns-in-Err-size_or : goal.returns-in-Err-size_or
unfolding object_of
returns-in-Err-size_or c = grind (arith, common_steps)
