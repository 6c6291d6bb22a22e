use Rattle.std.proofs.Common.{arith}
use Rattle.std.proofs.lemmas.Grind.{common_steps}
use Rattle.mon_client.proofs.printed.bindings_text.Goals as goal

pub loop-binding-preserved : goal.loop-binding-preserved
loop-binding-preserved g c = grind (arith, common_steps)

pub returns : goal.returns
returns g c = grind (arith, common_steps)
