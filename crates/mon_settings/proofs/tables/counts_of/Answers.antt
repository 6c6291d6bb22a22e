use Rattle.std.proofs.Common.{arith}
use Rattle.std.proofs.lemmas.Grind.{common_steps}
use Rattle.mon_settings.specs.Interfaces.{counts_of}
use Rattle.mon_settings.proofs.tables.counts_of.Goals as goal

pub returns : goal.returns
unfolding counts_of
returns c = grind (arith, common_steps)

pub returns-in-Err : goal.returns-in-Err
unfolding counts_of
returns-in-Err c = grind (arith, common_steps)
