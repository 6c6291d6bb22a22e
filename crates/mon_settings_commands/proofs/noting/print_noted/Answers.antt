use Rattle.mon_console.specs.Files.{IsPrint}
use Rattle.mon_settings_commands.specs.Notes.{IsRoundNoted}
use Rattle.mon_settings_commands.proofs.Turns.{then_surely}
use Rattle.mon_settings_commands.proofs.noting.print_noted.Goals as goal

pub returns : goal.returns
returns g c =
    then_surely (IsPrint c.args.text.now) (IsRoundNoted c.args.settings.now c.args.longest) c.in_ok-print.field-0 (g.H.Host.log c.args.host.now) (g.H.Host.log c.print.new.host)
    (g.H.Host.log c.note_round.new.host) c.in_ok-print.ensures c.note_round.ensures
