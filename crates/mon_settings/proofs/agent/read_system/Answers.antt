use Rattle.std.proofs.Common.{arith}
use Rattle.std.proofs.lemmas.Grind.{common_steps}
use Rattle.mon_settings.specs.Agent.{system_of}
use Rattle.mon_settings.proofs.agent.read_system.Goals as goal

pub returns : goal.returns
unfolding system_of
returns c = grind (arith, common_steps)

pub returns-in-Err : goal.returns-in-Err
unfolding system_of
returns-in-Err c = grind (arith, common_steps)

pub returns-in-Err-int : goal.returns-in-Err-int
unfolding system_of
returns-in-Err-int c = grind (arith, common_steps)

pub returns-in-Err-hex : goal.returns-in-Err-hex
unfolding system_of
returns-in-Err-hex c = grind (arith, common_steps)

pub returns-in-Err-int_or : goal.returns-in-Err-int_or
unfolding system_of
returns-in-Err-int_or c = grind (arith, common_steps)

pub returns-in-Err-octets : goal.returns-in-Err-octets
unfolding system_of
returns-in-Err-octets c = grind (arith, common_steps)

pub returns-in-Err-oid : goal.returns-in-Err-oid
unfolding system_of
returns-in-Err-oid c = grind (arith, common_steps)

pub returns-in-Err-read_texts : goal.returns-in-Err-read_texts
unfolding system_of
returns-in-Err-read_texts c = grind (arith, common_steps)
