use Rattle.std.proofs.Common.{List, subst}
use Rattle.std.specs.Prelude.{Ok, String, map, string_bytes}
use Rattle.std.specs.Global.{Global}
use Rattle.mon_host.specs.Log.{GoesOnBy}
use Rattle.mon_host.proofs.Promised.{then_follows}
use Rattle.mon_settings_commands.specs.Notes.{Surely}
use Rattle.mon_settings_commands.specs.Settings.{IsDraftPrinted}
use Rattle.mon_settings_commands.specs.Source.{source_in}
use Rattle.mon_settings_commands.specs.Updated.{AreLinesNoted, AreRelabelled}
use Rattle.mon_settings_commands.proofs.Sequences.{AfterLabelled}
use Rattle.mon_settings_commands.proofs.Turns.{fails, then_surely}
use Rattle.mon_settings_commands.proofs.updating.put_updated.Goals as goal

pub returns-in_err-write_relabelled : goal.returns-in_err-write_relabelled
returns-in_err-write_relabelled g c =
    let s = source_in c.args.input.now in
    let u = c.args.update in
    fails (AreRelabelled s u.old.existing.now u.known.now u.old.labels.now) (AfterLabelled c.args.drafted.now (map string_bytes u.lines.now.items)) c.in_err-write_relabelled.field-0.0 c.from_residual.result (g.H.Host.log c.args.host.now)
    (g.H.Host.log c.write_relabelled.new.host) c.from_residual.ensures.1 c.in_err-write_relabelled.ensures

pub returns-in_err-print_drafted : goal.returns-in_err-print_drafted
returns-in_err-print_drafted g c =
    let s = source_in c.args.input.now in
    let u = c.args.update in
    let lines = map string_bytes u.lines.now.items in
    let before = g.H.Host.log c.args.host.now in
    let labelled = g.H.Host.log c.write_relabelled.new.host in
    let end = g.H.Host.log c.print_drafted.new.host in
    let r = c.from_residual-in_err-print_drafted.result in
    then_follows (AreRelabelled s u.old.existing.now u.known.now u.old.labels.now) (AfterLabelled c.args.drafted.now lines) (Ok c.in_ok-write_relabelled.field-0) r before labelled end c.in_ok-write_relabelled.ensures
    (fails (IsDraftPrinted c.args.drafted.now) (λ done. Surely (AreLinesNoted lines)) c.in_err-print_drafted.field-0.0 r labelled end c.from_residual-in_err-print_drafted.ensures.1 c.in_err-print_drafted.ensures)

pub returns : goal.returns
returns g c =
    let s = source_in c.args.input.now in
    let u = c.args.update in
    let lines = map string_bytes u.lines.now.items in
    let before = g.H.Host.log c.args.host.now in
    let labelled = g.H.Host.log c.write_relabelled.new.host in
    let printed = g.H.Host.log c.print_drafted.new.host in
    let end = g.H.Host.log c.note_lines.new.host in
    then_follows (AreRelabelled s u.old.existing.now u.known.now u.old.labels.now) (AfterLabelled c.args.drafted.now lines) (Ok c.in_ok-write_relabelled.field-0) (Ok tt) before labelled end c.in_ok-write_relabelled.ensures
    (then_surely (IsDraftPrinted c.args.drafted.now) (AreLinesNoted lines) c.in_ok-print_drafted.field-0 labelled printed end c.in_ok-print_drafted.ensures
    (subst (λ (l : List (String Global)). GoesOnBy (AreLinesNoted (map string_bytes l)) printed end) c.as_slice.ensures.value c.note_lines.ensures))
