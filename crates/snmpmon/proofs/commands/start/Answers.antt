use Rattle.std.proofs.Common.{◌∷◌, List, inl, inr, map, refl, string_bytes, subst}
use Rattle.std.specs.Prelude.{String}
use Rattle.std.specs.Global.{Global}
use Rattle.mon_client.specs.Network.{agents_by}
use Rattle.mon_serving.specs.Network.{ports_by}
use Rattle.mon_health_commands.specs.Health.{stations_by}
use Rattle.mon_host.specs.AtHost.{AtHost, Listed, Unlisted}
use Rattle.mon_host.specs.Log.{GoesOnBy}
use Rattle.mon_host.specs.Reason.{why}
use Rattle.snmpmon.specs.Start.{IsListedStart, IsStart, IsStartWith, IsUnlisted, IsUnlistedStart}
use Rattle.snmpmon.proofs.Runs.{called}
use Rattle.snmpmon.proofs.commands.start.Goals as goal

pub returns-in-Ok : goal.returns-in-Ok
returns-in-Ok g c =
    let agents = agents_by (g.N.Opens.has_opened c.args.means.now.net) (g.N.Opens.has_failed c.args.means.now.net) g.N.Wire.Wire.log in
    let ports = ports_by (g.N.Listens.has_opened c.args.means.now.net) (g.N.Listens.has_failed c.args.means.now.net) g.N.Port.Port.log g.N.Port.Port.failures in
    let saved = g.K.Saves.asked_save c.args.means.now.disks in
    let stations = stations_by (g.C.Connects.has_connected c.args.means.now.streams) (g.C.Connects.has_failed c.args.means.now.streams) g.C.Stream.Stream.log in
    let between = g.H.Host.log c.arguments.new.self in
    let after = g.H.Host.log c.start_with.new.host in
    let status = c.start_with.result in
    let words = map string_bytes c.in-Ok.words.items in
    let start = subst (λ (ws : List (String Global)). GoesOnBy (λ log. IsStartWith agents ports saved stations (map string_bytes ws) log status) between after)
    c.as_slice.ensures.value c.start_with.ensures in
    called (Listed words) (λ log. IsStartWith agents ports saved stations words log status) (λ log. IsStart agents ports saved stations log status) (g.H.Host.log c.args.host.now) between after (λ rest is.
    let listed : IsListedStart agents ports saved stations (Listed words ∷ rest) status = record { words = words; rest = rest; start = is; log_is = refl } in
    inl listed) c.in-Ok.ensures start

pub returns-in-Err : goal.returns-in-Err
returns-in-Err g c =
    let agents = agents_by (g.N.Opens.has_opened c.args.means.now.net) (g.N.Opens.has_failed c.args.means.now.net) g.N.Wire.Wire.log in
    let ports = ports_by (g.N.Listens.has_opened c.args.means.now.net) (g.N.Listens.has_failed c.args.means.now.net) g.N.Port.Port.log g.N.Port.Port.failures in
    let saved = g.K.Saves.asked_save c.args.means.now.disks in
    let stations = stations_by (g.C.Connects.has_connected c.args.means.now.streams) (g.C.Connects.has_failed c.args.means.now.streams) g.C.Stream.Stream.log in
    let because = why c.in-Err.reason in
    let status = c.end_unlisted.result in
    called (Unlisted because) (λ log. IsUnlisted because.kind log status) (λ log. IsStart agents ports saved stations log status) (g.H.Host.log c.args.host.now)
    (g.H.Host.log c.arguments.new.self) (g.H.Host.log c.end_unlisted.new.host) (λ rest is.
    let unlisted : IsUnlistedStart (Unlisted because ∷ rest) status = record { why = because; rest = rest; end = is; log_is = refl } in
    inr unlisted) c.in-Err.ensures c.end_unlisted.ensures
