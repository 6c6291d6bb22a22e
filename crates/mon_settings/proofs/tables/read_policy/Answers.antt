use Rattle.std.proofs.Common.{arith}
use Rattle.std.proofs.lemmas.Grind.{common_steps}
use Rattle.mon_settings.specs.Tables.{policy_in}
use Rattle.mon_settings.proofs.tables.read_policy.Goals as goal

pub returns : goal.returns
unfolding policy_in
returns c = grind (arith, common_steps)

pub returns-in-Err : goal.returns-in-Err
unfolding policy_in
returns-in-Err c = grind (arith, common_steps)
