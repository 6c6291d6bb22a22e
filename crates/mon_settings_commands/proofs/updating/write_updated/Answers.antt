use Rattle.std.proofs.Common.{List, subst}
use Rattle.std.specs.Prelude.{Ok, Err}
use Rattle.mon_client.specs.Network.{agents_by}
use Rattle.mon_host.specs.Log.{GoesOnBy}
use Rattle.mon_survey.specs.declared.moving.Known.{Known}
use Rattle.mon_settings_commands.specs.Fitting.{AreFitting}
use Rattle.mon_settings_commands.specs.Source.{source_in}
use Rattle.mon_settings_commands.specs.Updated.{AreKnown, AreLines, IsChanged, IsUpdatedOf}
use Rattle.mon_settings_commands.proofs.Sequences.{AfterKnown, AfterLines}
use Rattle.mon_settings_commands.proofs.Turns.{fails_quietly, quietly_then}
use Rattle.mon_settings_commands.proofs.updating.write_updated.Goals as goal

pub returns-in_err-known : goal.returns-in_err-known
returns-in_err-known g c =
    let agents = agents_by (g.N.Opens.has_opened c.args.net.now) (g.N.Opens.has_failed c.args.net.now) g.N.Wire.Wire.log in
    let s = source_in c.args.input.now in
    let existing = c.args.old.existing.now in
    let old = c.args.old.labels.now in
    let now = g.H.Host.log c.args.host.now in
    fails_quietly (AreKnown s old) (AfterKnown agents s existing old) c.in_err-known.field-0.0 c.from_residual.result now c.from_residual.ensures.1 c.in_err-known.ensures

pub returns-in_err-lines : goal.returns-in_err-lines
returns-in_err-lines g c =
    let agents = agents_by (g.N.Opens.has_opened c.args.net.now) (g.N.Opens.has_failed c.args.net.now) g.N.Wire.Wire.log in
    let s = source_in c.args.input.now in
    let existing = c.args.old.existing.now in
    let old = c.args.old.labels.now in
    let now = g.H.Host.log c.args.host.now in
    let known = c.in_ok-known.known in
    let r = c.from_residual-in_err-lines.result in
    quietly_then (AreKnown s old) (AfterKnown agents s existing old) known r now now c.in_ok-known.ensures
    (fails_quietly (AreLines s existing known.items) (AfterLines agents s existing old known) c.in_err-lines.field-0.0 r now c.from_residual-in_err-lines.ensures.1 c.in_err-lines.ensures)

pub returns-in_err-drafted : goal.returns-in_err-drafted
returns-in_err-drafted g c =
    let agents = agents_by (g.N.Opens.has_opened c.args.net.now) (g.N.Opens.has_failed c.args.net.now) g.N.Wire.Wire.log in
    let s = source_in c.args.input.now in
    let existing = c.args.old.existing.now in
    let old = c.args.old.labels.now in
    let now = g.H.Host.log c.args.host.now in
    let known = c.in_ok-known.known in
    let lines = c.in_ok-lines.lines in
    let r = c.from_residual-in_err-drafted.result in
    quietly_then (AreKnown s old) (AfterKnown agents s existing old) known r now now c.in_ok-known.ensures
    (quietly_then (AreLines s existing known.items) (AfterLines agents s existing old known) lines r now now (subst (λ (ks : List Known). AreLines s existing ks (Ok lines)) c.deref.ensures.value c.in_ok-lines.ensures)
    (fails_quietly (AreFitting agents s.asked (IsUpdatedOf s existing known.items)) (λ drafted. IsChanged s existing known.items old lines drafted) c.in_err-drafted.field-0.0 r now c.from_residual-in_err-drafted.ensures.1
    (subst (λ (ks : List Known). AreFitting agents s.asked (IsUpdatedOf s existing ks) (Err c.in_err-drafted.field-0.0)) c.deref-2.ensures.value c.in_err-drafted.ensures)))

pub returns : goal.returns
returns g c =
    let agents = agents_by (g.N.Opens.has_opened c.args.net.now) (g.N.Opens.has_failed c.args.net.now) g.N.Wire.Wire.log in
    let s = source_in c.args.input.now in
    let existing = c.args.old.existing.now in
    let old = c.args.old.labels.now in
    let now = g.H.Host.log c.args.host.now in
    let known = c.in_ok-known.known in
    let lines = c.in_ok-lines.lines in
    let drafted = c.in_ok-drafted.drafted in
    let end = g.H.Host.log c.print_changed.new.host in
    let r = c.print_changed.result in
    quietly_then (AreKnown s old) (AfterKnown agents s existing old) known r now end c.in_ok-known.ensures
    (quietly_then (AreLines s existing known.items) (AfterLines agents s existing old known) lines r now end (subst (λ (ks : List Known). AreLines s existing ks (Ok lines)) c.deref.ensures.value c.in_ok-lines.ensures)
    (quietly_then (AreFitting agents s.asked (IsUpdatedOf s existing known.items)) (λ drafted. IsChanged s existing known.items old lines drafted) drafted r now end
    (subst (λ (ks : List Known). AreFitting agents s.asked (IsUpdatedOf s existing ks) (Ok drafted)) c.deref-2.ensures.value c.in_ok-drafted.ensures)
    (subst (λ (ks : List Known). GoesOnBy (λ log. IsChanged s existing ks old lines drafted log r) now end) c.deref-3.ensures.value c.print_changed.ensures)))
