use Rattle.mon_client.specs.Network.{agents_by}
use Rattle.mon_settings_commands.specs.Network.{IsNetworkPut}
use Rattle.mon_settings_commands.specs.Notes.{AreSpeedsNoted, Surely}
use Rattle.mon_settings_commands.specs.Source.{source_in}
use Rattle.mon_settings_commands.proofs.Turns.{fails, then_surely}
use Rattle.mon_settings_commands.proofs.network.write_noted.Goals as goal

pub returns : goal.returns
returns g c =
    let agents = agents_by (g.N.Opens.has_opened c.args.net.now) (g.N.Opens.has_failed c.args.net.now) g.N.Wire.Wire.log in
    let s = source_in c.args.input.now in
    then_surely (IsNetworkPut agents s c.args.files.folder.now c.args.files.network) (AreSpeedsNoted s) c.in_ok-write_network.field-0 (g.H.Host.log c.args.host.now) (g.H.Host.log c.write_network.new.host) (g.H.Host.log c.note_speeds.new.host)
    c.in_ok-write_network.ensures c.note_speeds.ensures

pub returns-in_err-write_network : goal.returns-in_err-write_network
returns-in_err-write_network g c =
    let agents = agents_by (g.N.Opens.has_opened c.args.net.now) (g.N.Opens.has_failed c.args.net.now) g.N.Wire.Wire.log in
    let s = source_in c.args.input.now in
    fails (IsNetworkPut agents s c.args.files.folder.now c.args.files.network) (λ done. Surely (AreSpeedsNoted s)) c.in_err-write_network.field-0.0 c.from_residual.result (g.H.Host.log c.args.host.now)
    (g.H.Host.log c.write_network.new.host) c.from_residual.ensures.1 c.in_err-write_network.ensures
