use Rattle.std.proofs.Common.{arith}
use Rattle.std.proofs.lemmas.Grind.{common_steps}
use Rattle.mon_settings.specs.Interfaces.{interface_of}
use Rattle.mon_settings.proofs.tables.InterfaceRowUnit.read.Goals as goal

pub returns : goal.returns
unfolding interface_of
returns c = grind (arith, common_steps)

pub returns-in-Err : goal.returns-in-Err
unfolding interface_of
returns-in-Err c = grind (arith, common_steps)

pub returns-in-Err-number : goal.returns-in-Err-number
unfolding interface_of
returns-in-Err-number c = grind (arith, common_steps)

pub returns-in-Err-octets : goal.returns-in-Err-octets
unfolding interface_of
returns-in-Err-octets c = grind (arith, common_steps)

pub returns-in-Err-int : goal.returns-in-Err-int
unfolding interface_of
returns-in-Err-int c = grind (arith, common_steps)

pub returns-in-Err-hex : goal.returns-in-Err-hex
unfolding interface_of
returns-in-Err-hex c = grind (arith, common_steps)

pub returns-in-Err-counts_of : goal.returns-in-Err-counts_of
unfolding interface_of
returns-in-Err-counts_of c = grind (arith, common_steps)
