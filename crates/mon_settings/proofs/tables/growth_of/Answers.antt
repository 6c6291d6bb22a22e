use Rattle.std.proofs.Common.{arith}
use Rattle.std.proofs.lemmas.Grind.{common_steps}
use Rattle.mon_settings.specs.Interfaces.{growth_of}
use Rattle.mon_settings.proofs.tables.growth_of.Goals as goal

pub returns : goal.returns
unfolding growth_of
returns c = grind (arith, common_steps)

pub returns-in-Err : goal.returns-in-Err
unfolding growth_of
returns-in-Err c = grind (arith, common_steps)

pub returns-in-Err-number : goal.returns-in-Err-number
unfolding growth_of
returns-in-Err-number c = grind (arith, common_steps)
