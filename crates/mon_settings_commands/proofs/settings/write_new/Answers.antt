use Rattle.mon_client.specs.Network.{agents_by}
use Rattle.mon_settings_commands.specs.Command.{ArePutTexts}
use Rattle.mon_settings_commands.specs.Notes.{AreSpeedsNoted}
use Rattle.mon_settings_commands.specs.Source.{source_in}
use Rattle.mon_settings_commands.proofs.Turns.{then_surely}
use Rattle.mon_settings_commands.proofs.settings.write_new.Goals as goal

pub returns : goal.returns
returns g c =
    let agents = agents_by (g.N.Opens.has_opened c.args.net.now) (g.N.Opens.has_failed c.args.net.now) g.N.Wire.Wire.log in
    let s = source_in c.args.input.now in
    then_surely (ArePutTexts agents s) (AreSpeedsNoted s) c.in_ok-put_texts.field-0 (g.H.Host.log c.args.host.now) (g.H.Host.log c.put_texts.new.host) (g.H.Host.log c.note_speeds.new.host)
    c.in_ok-put_texts.ensures c.note_speeds.ensures
