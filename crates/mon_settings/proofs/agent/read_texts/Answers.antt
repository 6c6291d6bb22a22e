use Rattle.std.proofs.Common.{arith}
use Rattle.std.proofs.lemmas.Grind.{common_steps}
use Rattle.mon_settings.specs.Agent.{set_texts_of}
use Rattle.mon_settings.proofs.agent.read_texts.Goals as goal

pub returns : goal.returns
unfolding set_texts_of
returns c = grind (arith, common_steps)

pub returns-in-Err : goal.returns-in-Err
unfolding set_texts_of
returns-in-Err c = grind (arith, common_steps)
