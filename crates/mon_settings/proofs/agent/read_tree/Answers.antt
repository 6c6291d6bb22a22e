use Rattle.std.proofs.Common.{arith}
use Rattle.std.proofs.lemmas.Grind.{common_steps}
use Rattle.mon_settings.specs.Agent.{agent_of}
use Rattle.mon_settings.proofs.agent.read_tree.Goals as goal

pub returns-clause-gives : goal.returns-clause-gives
unfolding agent_of
returns-clause-gives c = grind (arith, common_steps)

pub returns-in-Err-clause-gives : goal.returns-in-Err-clause-gives
unfolding agent_of
returns-in-Err-clause-gives c = grind (arith, common_steps)

pub returns-in-Err-read_system-clause-gives : goal.returns-in-Err-read_system-clause-gives
unfolding agent_of
returns-in-Err-read_system-clause-gives c = grind (arith, common_steps)

pub returns-in-Err-read_policy-clause-gives : goal.returns-in-Err-read_policy-clause-gives
unfolding agent_of
returns-in-Err-read_policy-clause-gives c = grind (arith, common_steps)

pub returns-in-Err-read_interfaces-clause-gives : goal.returns-in-Err-read_interfaces-clause-gives
unfolding agent_of
returns-in-Err-read_interfaces-clause-gives c = grind (arith, common_steps)
