use Rattle.mon_settings_commands.specs.Notes.{AreSpeedsNoted, Surely}
use Rattle.mon_settings_commands.specs.Source.{source_in}
use Rattle.mon_settings_commands.specs.Updated.{IsPutUpdated}
use Rattle.mon_settings_commands.proofs.Turns.{fails, then_surely}
use Rattle.mon_settings_commands.proofs.updating.print_changed.Goals as goal

pub returns : goal.returns
returns g c =
    let s = source_in c.args.input.now in
    let u = c.args.update in
    then_surely (IsPutUpdated s u.old.existing.now u.known.now u.old.labels.now u.lines.now c.args.drafted.now) (AreSpeedsNoted s) c.in_ok-put_updated.field-0 (g.H.Host.log c.args.host.now) (g.H.Host.log c.put_updated.new.host)
    (g.H.Host.log c.note_speeds.new.host) c.in_ok-put_updated.ensures c.note_speeds.ensures

pub returns-in_err-put_updated : goal.returns-in_err-put_updated
returns-in_err-put_updated g c =
    let s = source_in c.args.input.now in
    let u = c.args.update in
    fails (IsPutUpdated s u.old.existing.now u.known.now u.old.labels.now u.lines.now c.args.drafted.now) (λ done. Surely (AreSpeedsNoted s)) c.in_err-put_updated.field-0.0 c.from_residual.result (g.H.Host.log c.args.host.now)
    (g.H.Host.log c.put_updated.new.host) c.from_residual.ensures.1 c.in_err-put_updated.ensures
