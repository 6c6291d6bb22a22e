use Rattle.std.proofs.Common.{arith}
use Rattle.std.proofs.lemmas.Grind.{common_steps}
use Rattle.mon_settings.specs.Tables.{community_of}
use Rattle.mon_settings.proofs.tables.CommunityRowUnit.read.Goals as goal

pub returns : goal.returns
unfolding community_of
returns c = grind (arith, common_steps)

pub returns-in-Err : goal.returns-in-Err
unfolding community_of
returns-in-Err c = grind (arith, common_steps)

pub returns-in-Err-octets : goal.returns-in-Err-octets
unfolding community_of
returns-in-Err-octets c = grind (arith, common_steps)
