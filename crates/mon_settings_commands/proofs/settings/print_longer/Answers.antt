use Rattle.mon_settings_commands.specs.Appended.{IsPutLonger}
use Rattle.mon_settings_commands.specs.Notes.{AreSpeedsNoted, Surely}
use Rattle.mon_settings_commands.specs.Source.{source_in}
use Rattle.mon_settings_commands.proofs.Turns.{fails, then_surely}
use Rattle.mon_settings_commands.proofs.settings.print_longer.Goals as goal

pub returns : goal.returns
returns g c =
    let s = source_in c.args.input.now in
    then_surely (IsPutLonger s c.args.drafted.now c.args.old.now) (AreSpeedsNoted s) c.in_ok-put_longer.field-0 (g.H.Host.log c.args.host.now) (g.H.Host.log c.put_longer.new.host)
    (g.H.Host.log c.note_speeds.new.host) c.in_ok-put_longer.ensures c.note_speeds.ensures

pub returns-in_err-put_longer : goal.returns-in_err-put_longer
returns-in_err-put_longer g c =
    let s = source_in c.args.input.now in
    fails (IsPutLonger s c.args.drafted.now c.args.old.now) (λ done. Surely (AreSpeedsNoted s)) c.in_err-put_longer.field-0.0 c.from_residual.result (g.H.Host.log c.args.host.now)
    (g.H.Host.log c.put_longer.new.host) c.from_residual.ensures.1 c.in_err-put_longer.ensures
