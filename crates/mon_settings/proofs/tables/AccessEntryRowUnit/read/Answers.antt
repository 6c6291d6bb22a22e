use Rattle.std.proofs.Common.{arith}
use Rattle.std.proofs.lemmas.Grind.{common_steps}
use Rattle.mon_settings.specs.Tables.{access_entry_of}
use Rattle.mon_settings.proofs.tables.AccessEntryRowUnit.read.Goals as goal

pub returns : goal.returns
unfolding access_entry_of
returns c = grind (arith, common_steps)

pub returns-in-Err : goal.returns-in-Err
unfolding access_entry_of
returns-in-Err c = grind (arith, common_steps)

pub returns-in-Err-octets : goal.returns-in-Err-octets
unfolding access_entry_of
returns-in-Err-octets c = grind (arith, common_steps)

pub returns-in-Err-model : goal.returns-in-Err-model
unfolding access_entry_of
returns-in-Err-model c = grind (arith, common_steps)

pub returns-in-Err-name_or_none : goal.returns-in-Err-name_or_none
unfolding access_entry_of
returns-in-Err-name_or_none c = grind (arith, common_steps)
