-- The labels of the series of instances, made once for all texts of them.
use Rattle.std.specs.Prelude.{◌≡◌, ℕ, List, Option, map}
use Rattle.mon_board.specs.declared.instance.Instance.{Instance}
use Rattle.mon_board.specs.Instance.{named}
use Rattle.mon_report.specs.Report.{Entry}
use Rattle.mon_page.specs.declared.extras.InstanceLabels.{InstanceLabels}
use Rattle.mon_page.specs.Labelled.{labelled}
use Rattle.mon_formats.specs.declared.format.Format.{Format}
use Rattle.mon_formats.specs.declared.format.Format.TheVariants.{Prometheus, OpenMetrics}
use Rattle.mon_formats.specs.declared.prometheus.text.Exposition.{Exposition}
use Rattle.mon_formats.specs.declared.prometheus.text.Exposition.TheVariants as expositions
use Rattle.mon_formats.specs.Prometheus.{instance_labels}

-- instances, and of each the labels of its series
pub record Series : Type 0 where
  pub instances : List Instance
  pub texts : List (List ℕ)

-- what a report says of these instances, in their order
abbrev pub AreOf : List Instance → List Entry → Type 0
AreOf instances entries = map (λ e. named e.engine e.name) entries ≡ instances

-- Of these instances the texts are the labels, whatever a report says of them: where series have
-- this number of a station, if any, names are shown so, and these labels are given.
abbrev pub AreSeries : (station : Option ℕ) → (shown : List ℕ → List ℕ) → List InstanceLabels → Series
    → Type 0
AreSeries station shown given s = (entries : List Entry) → AreOf s.instances entries
    → map (instance_labels station shown) (labelled given entries) ≡ s.texts

-- a format in which instances have series
abbrev pub HasSeries : Format → Type 0
HasSeries Prometheus = Unit {0}
HasSeries OpenMetrics = Unit {0}
HasSeries other = ⊥

-- which of the formats that Prometheus reads it is
abbrev pub IsExposition : Format → Exposition → Type 0
IsExposition Prometheus e = e ≡ expositions.Prometheus
IsExposition OpenMetrics e = e ≡ expositions.OpenMetrics
IsExposition other e = ⊥
