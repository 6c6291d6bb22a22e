use Rattle.std.proofs.Common.{arith}
use Rattle.std.proofs.lemmas.Grind.{common_steps}
use Rattle.mon_settings.specs.Tables.{group_of}
use Rattle.mon_settings.proofs.tables.GroupRowUnit.read.Goals as goal

pub returns : goal.returns
unfolding group_of
returns c = grind (arith, common_steps)

pub returns-in-Err : goal.returns-in-Err
unfolding group_of
returns-in-Err c = grind (arith, common_steps)

pub returns-in-Err-octets : goal.returns-in-Err-octets
unfolding group_of
returns-in-Err-octets c = grind (arith, common_steps)
