-- Labels of instances depend on their engines and names, and on nothing else that a report says.
use Rattle.std.proofs.Common.{◌≡◌, ℕ, List, [], ◌∷◌, Option, Some, None, map, length, refl, ap, sym, ◌∙◌}
use Rattle.std.proofs.lemmas.List.{length-map}
use Rattle.mon_board.specs.declared.instance.Instance.{Instance}
use Rattle.mon_board.specs.Instance.{named}
use Rattle.mon_report.specs.Report.{Entry}
use Rattle.mon_page.specs.declared.extras.InstanceLabels.{InstanceLabels}
use Rattle.mon_page.specs.Labelled.{labelled}
use Rattle.mon_page.specs.declared.extras.Presentation.{Presentation}
use Rattle.mon_page.specs.declared.figures.Figures.{Figures}
use Rattle.mon_formats.specs.declared.format.Format.{Format}
use Rattle.mon_formats.specs.declared.format.Format.TheVariants.{Text, Json, Prometheus, OpenMetrics, Columns, Html}
use Rattle.mon_formats.specs.declared.prometheus.text.Exposition.{Exposition}
use Rattle.mon_formats.specs.Formats.{formatted}
use Rattle.mon_formats.specs.Prometheus.{instance_labels, prometheus_report}
use Rattle.mon_formats.specs.Series.{AreOf, IsExposition}

-- what a report says of an instance without samples and rules
abbrev bare : Instance → Entry
bare i = record { engine = i.engine; name = i.name; items = []; rules = []; alarms = [] }

module _ (station : Option ℕ) (shown : List ℕ → List ℕ) where
  one_label : (e o : Entry) (given : Option InstanceLabels) → named e.engine e.name ≡ named o.engine o.name
      → instance_labels station shown (e, given) ≡ instance_labels station shown (o, given)
  unfolding instance_labels
  one_label e o given is = ap (λ i. instance_labels station shown (bare i, given)) is

  -- of equal instances with what is given for them the labels are equal
  pub same_labels : (given : List InstanceLabels) (es others : List Entry) → map (λ e. named e.engine e.name) es ≡ map (λ e. named e.engine e.name) others
      → map (instance_labels station shown) (labelled given es) ≡ map (instance_labels station shown) (labelled given others)
  same_labels given [] [] are = refl
  same_labels given [] (o ∷ others) are = absurd cc
  same_labels given (e ∷ es) [] are = absurd cc
  same_labels [] (e ∷ es) (o ∷ others) are =
      let first : named e.engine e.name ≡ named o.engine o.name = cc in
      let rest : map (λ x. named x.engine x.name) es ≡ map (λ x. named x.engine x.name) others = cc in
      λ k. one_label e o None first k ∷ same_labels [] es others rest k
  same_labels (l ∷ given) (e ∷ es) (o ∷ others) are =
      let first : named e.engine e.name ≡ named o.engine o.name = cc in
      let rest : map (λ x. named x.engine x.name) es ≡ map (λ x. named x.engine x.name) others = cc in
      λ k. one_label e o (Some l) first k ∷ same_labels given es others rest k

-- there are as many instances as entries of them
pub as_many : (instances : List Instance) (entries : List Entry) → AreOf instances entries → length instances ≡ length entries
as_many instances entries are = ap length (sym are) ∙ length-map entries (λ e. named e.engine e.name)

-- the report in a format that Prometheus reads
pub by_exposition : (format : Format) (e : Exposition) → IsExposition format e → (shown : List ℕ → List ℕ) (entries : List Entry) (station : Option Figures)
    (given : List InstanceLabels) (p : Presentation)
    → prometheus_report e p.station shown (labelled given entries) station ≡ formatted format shown entries station given p
by_exposition Prometheus e is shown entries station given p = ap (λ x. prometheus_report x p.station shown (labelled given entries) station) is
by_exposition OpenMetrics e is shown entries station given p = ap (λ x. prometheus_report x p.station shown (labelled given entries) station) is
by_exposition Text e is shown entries station given p = absurd is
by_exposition Json e is shown entries station given p = absurd is
by_exposition Columns e is shown entries station given p = absurd is
by_exposition Html e is shown entries station given p = absurd is
