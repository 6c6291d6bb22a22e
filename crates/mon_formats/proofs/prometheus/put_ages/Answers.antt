use Rattle.std.proofs.Common.{◌≡◌, ◌<◌, ◌+◌, ◌++◌, [], ◌∙◌, ap, sym, length, drop, get_or, arith, append_assoc, append-nil, None}
use Rattle.std.specs.Prelude.{decimal}
use Rattle.mon_page.specs.Labelled.{Labelled}
use Rattle.mon_formats.specs.Prometheus.{age_lines, ages_text, metric_line, station_head, station_name}
use Rattle.mon_formats.specs.declared.prometheus.station.StationMetric.TheVariants.{Age}
use Rattle.mon_report.specs.Report.{Entry}
use Rattle.mon_formats.proofs.Fresh.{ages_end, one_age}
use Rattle.mon_formats.proofs.LabelTexts.{as_many, label_at}
use Rattle.mon_formats.proofs.prometheus.put_ages.Goals as goal

pub loop-place-preserved : goal.loop-place-preserved
loop-place-preserved c = λ labels all have.
    let entries = c.args.listing.entries.now in
    let given = c.args.listing.given.now in
    let texts = c.args.listing.labels.now in
    let ages = c.args.listing.ages.now in
    let at = c.loop-place.place in
    let text = c.loop-place.text.items in
    let age = get_or ages at 0 in
    let rest = age_lines labels (drop (at + 1) ages) (drop (at + 1) all) in
    let within : at < length entries = omega (arith, c.loop-place-test.true, c.min-place-end.ensures) in
    let aged : at < length ages = omega (arith, c.loop-place-test.true, c.min-place-end.ensures) in
    let inside : at < length all = omega (arith, within, as_many labels all entries given texts have) in
    let nobody : Entry = record { engine = []; name = []; items = []; rules = []; alarms = [] } in
    let x : Labelled = get_or all at (nobody, None) in
    let its : c.as_slice.result.now ≡ labels x =
    c.as_slice.ensures.value ∙ label_at labels all entries given texts have at (nobody, None) inside c.index-listing-place.result in
    (λ i. c.in_ok-put_age.ensures i ++ rest)
    ∙ append_assoc text (metric_line (station_name Age) c.as_slice.result.now (decimal age)) rest
    ∙ (λ i. text ++ (metric_line (station_name Age) (its i) (decimal age) ++ rest))
    ∙ ap (λ l. text ++ l) (sym (one_age labels ages all at (nobody, None) inside aged))
    ∙ c.loop-place.invariant labels all have

pub returns : goal.returns
unfolding ages_text
returns c = λ labels all have.
    let entries = c.args.listing.entries.now in
    let ages = c.args.listing.ages.now in
    let long = as_many labels all entries c.args.listing.given.now c.args.listing.labels.now have in
    let end = ages_end labels ages all c.loop-place.place (omega (arith, long, c.loop-place-test.false, c.min-place-end.ensures)) in
    sym (append-nil c.loop-place.text.items)
    ∙ (λ i. c.loop-place.text.items ++ sym end i)
    ∙ c.loop-place.invariant labels all have
    ∙ (λ i. c.in_ok-put_metric_head.ensures i ++ age_lines labels ages all)
    ∙ append_assoc c.args.text.now.items (station_head c.args.listing.format Age) (age_lines labels ages all)
