use Rattle.std.proofs.Common.{None, []}
use Rattle.std.specs.Prelude.{Ok}
use Rattle.mon_client.specs.Network.{agents_by}
use Rattle.mon_host.specs.Then.{Then}
use Rattle.mon_host.proofs.Promised.{then_follows}
use Rattle.mon_survey.specs.declared.longest.Drafted.{Drafted}
use Rattle.mon_settings_commands.specs.Fitting.{AreFitting}
use Rattle.mon_settings_commands.specs.Settings.{AreLabels, IsDraftPrinted, IsSettingsOf}
use Rattle.mon_settings_commands.specs.Source.{source_in}
use Rattle.mon_settings_commands.proofs.Turns.{fails, fails_quietly, quietly_then}
use Rattle.mon_settings_commands.proofs.settings.print_whole.Goals as goal

pub returns-in_err-drafted : goal.returns-in_err-drafted
returns-in_err-drafted g c =
    let agents = agents_by (g.N.Opens.has_opened c.args.net.now) (g.N.Opens.has_failed c.args.net.now) g.N.Wire.Wire.log in
    let s = source_in c.args.input.now in
    fails_quietly (AreFitting agents s.asked (IsSettingsOf s None)) (λ (drafted : Drafted). Then (AreLabels s []) (λ done. IsDraftPrinted drafted)) c.in_err-drafted.field-0.0 c.from_residual.result
    (g.H.Host.log c.args.host.now) c.from_residual.ensures.1 c.in_err-drafted.ensures

pub returns-in_err-write_labels : goal.returns-in_err-write_labels
returns-in_err-write_labels g c =
    let agents = agents_by (g.N.Opens.has_opened c.args.net.now) (g.N.Opens.has_failed c.args.net.now) g.N.Wire.Wire.log in
    let s = source_in c.args.input.now in
    let now = g.H.Host.log c.args.host.now in
    let labelled = g.H.Host.log c.write_labels.new.host in
    let drafted = c.in_ok-drafted.drafted in
    let r = c.from_residual-in_err-write_labels.result in
    quietly_then (AreFitting agents s.asked (IsSettingsOf s None)) (λ (drafted : Drafted). Then (AreLabels s []) (λ done. IsDraftPrinted drafted)) drafted r now labelled c.in_ok-drafted.ensures
    (fails (AreLabels s []) (λ done. IsDraftPrinted drafted) c.in_err-write_labels.field-0.0 r now labelled c.from_residual-in_err-write_labels.ensures.1 c.in_err-write_labels.ensures)

pub returns : goal.returns
returns g c =
    let agents = agents_by (g.N.Opens.has_opened c.args.net.now) (g.N.Opens.has_failed c.args.net.now) g.N.Wire.Wire.log in
    let s = source_in c.args.input.now in
    let now = g.H.Host.log c.args.host.now in
    let labelled = g.H.Host.log c.write_labels.new.host in
    let end = g.H.Host.log c.print_drafted.new.host in
    let drafted = c.in_ok-drafted.drafted in
    quietly_then (AreFitting agents s.asked (IsSettingsOf s None)) (λ (drafted : Drafted). Then (AreLabels s []) (λ done. IsDraftPrinted drafted)) drafted c.print_drafted.result now end c.in_ok-drafted.ensures
    (then_follows (AreLabels s []) (λ done. IsDraftPrinted drafted) (Ok c.in_ok-write_labels.field-0) c.print_drafted.result now labelled end c.in_ok-write_labels.ensures c.print_drafted.ensures)
