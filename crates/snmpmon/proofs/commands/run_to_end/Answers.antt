use Rattle.mon_client.specs.Network.{agents_by}
use Rattle.mon_serving.specs.Network.{ports_by}
use Rattle.mon_health_commands.specs.Health.{stations_by}
use Rattle.snmpmon.proofs.Runs.{runs}
use Rattle.snmpmon.proofs.commands.run_to_end.Goals as goal

pub returns : goal.returns
returns g c =
    let agents = agents_by (g.N.Opens.has_opened c.args.means.now.net) (g.N.Opens.has_failed c.args.means.now.net) g.N.Wire.Wire.log in
    let ports = ports_by (g.N.Listens.has_opened c.args.means.now.net) (g.N.Listens.has_failed c.args.means.now.net) g.N.Port.Port.log g.N.Port.Port.failures in
    let saved = g.K.Saves.asked_save c.args.means.now.disks in
    let stations = stations_by (g.C.Connects.has_connected c.args.means.now.streams) (g.C.Connects.has_failed c.args.means.now.streams) g.C.Stream.Stream.log in
    runs agents ports saved stations c.args.asked c.reads_input.result c.is_station-station.result c.run-done.result c.end.result _ _ _ _ c.reads_input.ensures c.is_station-station.ensures c.prepare.ensures
    c.run-done.ensures c.end.ensures
