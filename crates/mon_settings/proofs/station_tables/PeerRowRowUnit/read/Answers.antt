use Rattle.std.proofs.Common.{arith}
use Rattle.std.proofs.lemmas.Grind.{common_steps}
use Rattle.mon_settings.specs.StationTables.{peer_of}
use Rattle.mon_settings.proofs.station_tables.PeerRowRowUnit.read.Goals as goal

pub returns : goal.returns
unfolding peer_of
returns c = grind (arith, common_steps)

pub returns-in-Err : goal.returns-in-Err
unfolding peer_of
returns-in-Err c = grind (arith, common_steps)

pub returns-in-Err-number : goal.returns-in-Err-number
unfolding peer_of
returns-in-Err-number c = grind (arith, common_steps)

pub returns-in-Err-addr : goal.returns-in-Err-addr
unfolding peer_of
returns-in-Err-addr c = grind (arith, common_steps)
