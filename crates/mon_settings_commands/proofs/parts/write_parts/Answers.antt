use Rattle.std.proofs.Common.{List, [], length, subst}
use Rattle.std.specs.Prelude.{Err, Ok}
use Rattle.mon_client.specs.Network.{agents_by}
use Rattle.mon_host.specs.Log.{GoesOnBy}
use Rattle.mon_host.proofs.Promised.{then_follows}
use Rattle.mon_survey.specs.declared.longest.Drafted.{Drafted}
use Rattle.mon_settings_commands.specs.Parts.{AreAbsent, AreParted, AreWritten}
use Rattle.mon_settings_commands.specs.Settings.{AreLabels}
use Rattle.mon_settings_commands.specs.Source.{source_in}
use Rattle.mon_settings_commands.proofs.Sequences.{AfterAbsent, AfterLabels, AfterParts}
use Rattle.mon_settings_commands.proofs.Turns.{fails, fails_quietly, quietly_then}
use Rattle.mon_settings_commands.proofs.parts.write_parts.Goals as goal

pub returns-in_err-parts : goal.returns-in_err-parts
returns-in_err-parts g c =
    let agents = agents_by (g.N.Opens.has_opened c.args.net.now) (g.N.Opens.has_failed c.args.net.now) g.N.Wire.Wire.log in
    let s = source_in c.args.input.now in
    fails_quietly (AreParted agents s) (AfterParts s c.args.folder.now) c.in_err-parts.field-0.0 c.from_residual.result (g.H.Host.log c.args.host.now) c.from_residual.ensures.1
    c.in_err-parts.ensures

pub returns-in_err-require_absent : goal.returns-in_err-require_absent
returns-in_err-require_absent g c =
    let agents = agents_by (g.N.Opens.has_opened c.args.net.now) (g.N.Opens.has_failed c.args.net.now) g.N.Wire.Wire.log in
    let s = source_in c.args.input.now in
    let folder = c.args.folder.now in
    let now = g.H.Host.log c.args.host.now in
    let looked = g.H.Host.log c.require_absent.new.host in
    let parts = c.in_ok-parts.parts in
    let failure = c.in_err-require_absent.field-0.0 in
    let r = c.from_residual-in_err-require_absent.result in
    let absent = subst (λ (ps : List Drafted). GoesOnBy (λ log. AreAbsent folder 0 (length ps) log (Err failure)) now looked) c.as_slice.ensures.value c.in_err-require_absent.ensures in
    quietly_then (AreParted agents s) (AfterParts s folder) parts r now looked c.in_ok-parts.ensures
    (fails (AreAbsent folder 0 (length parts.items)) (AfterAbsent s folder parts) failure r now looked c.from_residual-in_err-require_absent.ensures.1 absent)

pub returns-in_err-write_labels : goal.returns-in_err-write_labels
returns-in_err-write_labels g c =
    let agents = agents_by (g.N.Opens.has_opened c.args.net.now) (g.N.Opens.has_failed c.args.net.now) g.N.Wire.Wire.log in
    let s = source_in c.args.input.now in
    let folder = c.args.folder.now in
    let now = g.H.Host.log c.args.host.now in
    let looked = g.H.Host.log c.require_absent.new.host in
    let labelled = g.H.Host.log c.write_labels.new.host in
    let parts = c.in_ok-parts.parts in
    let r = c.from_residual-in_err-write_labels.result in
    let absent = subst (λ (ps : List Drafted). GoesOnBy (λ log. AreAbsent folder 0 (length ps) log (Ok c.in_ok-require_absent.field-0)) now looked) c.as_slice.ensures.value
    c.in_ok-require_absent.ensures in
    quietly_then (AreParted agents s) (AfterParts s folder) parts r now labelled c.in_ok-parts.ensures
    (then_follows (AreAbsent folder 0 (length parts.items)) (AfterAbsent s folder parts) (Ok c.in_ok-require_absent.field-0) r now looked labelled absent
    (fails (AreLabels s []) (AfterLabels folder parts) c.in_err-write_labels.field-0.0 r looked labelled c.from_residual-in_err-write_labels.ensures.1 c.in_err-write_labels.ensures))

pub returns : goal.returns
returns g c =
    let agents = agents_by (g.N.Opens.has_opened c.args.net.now) (g.N.Opens.has_failed c.args.net.now) g.N.Wire.Wire.log in
    let s = source_in c.args.input.now in
    let folder = c.args.folder.now in
    let now = g.H.Host.log c.args.host.now in
    let looked = g.H.Host.log c.require_absent.new.host in
    let labelled = g.H.Host.log c.write_labels.new.host in
    let end = g.H.Host.log c.write_all.new.host in
    let parts = c.in_ok-parts.parts in
    let r = c.write_all.result in
    let absent = subst (λ (ps : List Drafted). GoesOnBy (λ log. AreAbsent folder 0 (length ps) log (Ok c.in_ok-require_absent.field-0)) now looked) c.as_slice.ensures.value
    c.in_ok-require_absent.ensures in
    let written = subst (λ (ps : List Drafted). GoesOnBy (λ log. AreWritten folder 0 ps log r) labelled end) c.as_slice-2.ensures.value c.write_all.ensures in
    quietly_then (AreParted agents s) (AfterParts s folder) parts r now end c.in_ok-parts.ensures
    (then_follows (AreAbsent folder 0 (length parts.items)) (AfterAbsent s folder parts) (Ok c.in_ok-require_absent.field-0) r now looked end absent
    (then_follows (AreLabels s []) (AfterLabels folder parts) (Ok c.in_ok-write_labels.field-0) r looked labelled end c.in_ok-write_labels.ensures written))
