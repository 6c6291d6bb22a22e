use Rattle.std.proofs.Common.{arith}
use Rattle.std.proofs.lemmas.Grind.{common_steps}
use Rattle.mon_settings.specs.Tables.{family_of}
use Rattle.mon_settings.proofs.tables.ViewTreeFamilyRowUnit.read.Goals as goal

pub returns : goal.returns
unfolding family_of
returns c = grind (arith, common_steps)

pub returns-in-Err : goal.returns-in-Err
unfolding family_of
returns-in-Err c = grind (arith, common_steps)

pub returns-in-Err-octets : goal.returns-in-Err-octets
unfolding family_of
returns-in-Err-octets c = grind (arith, common_steps)

pub returns-in-Err-oid : goal.returns-in-Err-oid
unfolding family_of
returns-in-Err-oid c = grind (arith, common_steps)

pub returns-in-Err-hex_or_none : goal.returns-in-Err-hex_or_none
unfolding family_of
returns-in-Err-hex_or_none c = grind (arith, common_steps)

pub returns-in-Err-truth : goal.returns-in-Err-truth
unfolding family_of
returns-in-Err-truth c = grind (arith, common_steps)
