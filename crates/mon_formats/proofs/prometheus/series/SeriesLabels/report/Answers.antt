use Rattle.std.proofs.Common.{◌∙◌, ◌++◌, sym, ap, refl, map, length, option_map, ℕ, List}
use Rattle.mon_page.specs.Labelled.{labelled}
use Rattle.std.specs.Global.{Vec}
use Rattle.mon_formats.specs.Series.{Series}
use Rattle.mon_formats.specs.LabelTexts.{AreLabelTexts}
use Rattle.mon_formats.specs.Prometheus.{end_text, instance_labels, prometheus_report, report_by}
use Rattle.mon_formats.proofs.Series.{as_many, by_exposition}
use Rattle.mon_formats.proofs.prometheus.series.SeriesLabels.report.Goals as goal

pub put_by-requires : goal.put_by-requires
put_by-requires c =
    ap length c.as_slice-texts.ensures.value ∙ c.self.invariant ∙ ap (λ (s : Series). length s.instances) c.self.view_is
    ∙ as_many c.args.self.now.instances c.args.entries.now c.requires.instances

pub returns : goal.returns
unfolding prometheus_report
returns c = λ shown are.
    let given = c.args.extras.labels.now in
    let entries = c.args.entries.now in
    let station = option_map (λ f. f.now) c.args.extras.station in
    let by = instance_labels c.args.extras.presentation.now.station shown in
    let have : AreLabelTexts by entries given c.as_slice-texts.result.now = record {
      are = refl;
      texts_are = are entries c.requires.instances ∙ ap (λ (s : Series). s.texts) (sym c.self.view_is) ∙ ap (map (λ (t : Vec ℕ). t.items)) (sym c.as_slice-texts.ensures.value);
    } in
    c.in_ok-put_by.ensures by have
    ∙ ap (λ (l : List ℕ). l ++ report_by c.exposition_of.result by (labelled given entries) station ++ end_text c.exposition_of.result) c.clear.ensures.items
    ∙ by_exposition c.args.format c.exposition_of.result c.exposition_of.ensures shown entries station given c.args.extras.presentation.now
