use Rattle.std.proofs.Common.{◌≡◌, ◌∙◌, ap, subst, sym}
use Rattle.std.specs.Prelude.{option_map}
use Rattle.mon_console.specs.Labelled.{AreLabelled, IsLabelled, number_if, numbered_by}
use Rattle.mon_console.specs.Printing.{numbered}
use Rattle.mon_console.specs.declared.printing.Printing.{Printing}
use Rattle.mon_host.specs.Log.{GoesOnBy}
use Rattle.mon_console.proofs.Added.{failure_is}
use Rattle.mon_console.specs.Settings.{Both}
use Rattle.mon_settings.specs.declared.station.StationSettings.{StationSettings}
use Rattle.mon_console.proofs.Stations.{after_labels, no_labels}
use Rattle.mon_console.proofs.labels.read_labelled_station.Goals as goal

pub returns-in_err-labels : goal.returns-in_err-labels
returns-in_err-labels g c =
    let printed = c.args.printed in
    let path = c.args.path.now in
    let labels = option_map (λ p. p.now) c.args.labels in
    let before = g.H.Host.log c.args.host.now in
    let read = g.H.Host.log c.read_station_file.new.host in
    let after = g.H.Host.log c.labels_in.new.host in
    let failure = c.in_err-labels.field-0.0 in
    let is = failure_is c.from_residual-in_err-labels.result failure c.from_residual-in_err-labels.ensures.1 in
    subst (λ (r : Both). GoesOnBy (λ log. IsLabelled path labels printed log r) before after) (sym is)
    (no_labels printed path labels (c.in_ok-settings.settings, c.in_ok-settings.printing) failure before read after c.in_ok-settings.ensures c.in_err-labels.ensures)

pub returns : goal.returns
returns g c =
    let both : StationSettings × Printing = (c.in_ok-settings.settings, c.in_ok-settings.printing) in
    let number : c.number_if-number.result ≡ number_if c.args.printed.station_label c.in_ok-settings.settings.core.station =
    c.number_if-number.ensures ∙ ap (number_if c.args.printed.station_label) c.station.ensures.station in
    let by : c.with_station.result ≡ numbered_by c.args.printed both = c.with_station.ensures ∙ ap (λ n. numbered n c.in_ok-settings.printing) number in
    after_labels c.args.printed c.args.path.now (option_map (λ p. p.now) c.args.labels) both c.in_ok-labels.labels
    c.labelled.result (g.H.Host.log c.args.host.now) (g.H.Host.log c.read_station_file.new.host) (g.H.Host.log c.labels_in.new.host) c.in_ok-settings.ensures c.in_ok-labels.ensures
    (subst (λ (p : Printing). AreLabelled c.in_ok-settings.settings p c.in_ok-labels.labels c.labelled.result) by c.labelled.ensures)
