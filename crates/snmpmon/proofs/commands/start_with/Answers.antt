use Rattle.std.proofs.Common.{List, inl, inr, map, string_bytes}
use Rattle.clap.specs.Values.{kind_of}
use Rattle.mon_client.specs.Network.{agents_by}
use Rattle.mon_serving.specs.Network.{ports_by}
use Rattle.mon_health_commands.specs.Health.{stations_by}
use Rattle.mon_host.proofs.Promised.{weaker}
use Rattle.mon_host.specs.AtHost.{AtHost}
use Rattle.snmpmon.specs.Start.{IsAskedBy, IsStartOf, IsStartWith, IsUsage}
use Rattle.snmpmon.proofs.commands.start_with.Goals as goal

pub returns-in-Ok : goal.returns-in-Ok
returns-in-Ok g c =
    let agents = agents_by (g.N.Opens.has_opened c.args.means.now.net) (g.N.Opens.has_failed c.args.means.now.net) g.N.Wire.Wire.log in
    let ports = ports_by (g.N.Listens.has_opened c.args.means.now.net) (g.N.Listens.has_failed c.args.means.now.net) g.N.Port.Port.log g.N.Port.Port.failures in
    let saved = g.K.Saves.asked_save c.args.means.now.disks in
    let stations = stations_by (g.C.Connects.has_connected c.args.means.now.streams) (g.C.Connects.has_failed c.args.means.now.streams) g.C.Stream.Stream.log in
    let words = map string_bytes c.args.words.now in
    let status = c.start_command.result in
    let asks : IsAskedBy words c.read_command.result =
    record { matches = c.in-Ok.matches; parse = c.in-Ok.ensures; asks = c.read_command.ensures.says } in
    weaker (λ (log : List AtHost). IsStartOf agents ports saved stations c.read_command.result log status) (λ log. IsStartWith agents ports saved stations words log status) _ _
    (λ log is. inl (c.read_command.result, asks, is)) c.start_command.ensures

pub returns-in-Err : goal.returns-in-Err
returns-in-Err g c =
    let agents = agents_by (g.N.Opens.has_opened c.args.means.now.net) (g.N.Opens.has_failed c.args.means.now.net) g.N.Wire.Wire.log in
    let ports = ports_by (g.N.Listens.has_opened c.args.means.now.net) (g.N.Listens.has_failed c.args.means.now.net) g.N.Port.Port.log g.N.Port.Port.failures in
    let saved = g.K.Saves.asked_save c.args.means.now.disks in
    let stations = stations_by (g.C.Connects.has_connected c.args.means.now.streams) (g.C.Connects.has_failed c.args.means.now.streams) g.C.Stream.Stream.log in
    let words = map string_bytes c.args.words.now in
    let status = c.end_usage.result in
    weaker (λ (log : List AtHost). IsUsage (kind_of c.in-Err.error) log status) (λ log. IsStartWith agents ports saved stations words log status) _ _
    (λ log is. inr (c.in-Err.error, c.in-Err.ensures, is)) c.end_usage.ensures
