-- What a running station shows over HTTP.
use Rattle.std.specs.Prelude.{◌≡◌, ℕ, List, Option, Some, IfSome, option_map}
use Rattle.std.specs.Global.{Vec}
use Rattle.mon_alarms.specs.Announcing.{announced_states}
use Rattle.mon_console.specs.Shown.{shown_by}
use Rattle.mon_formats.specs.Formats.{formatted}
use Rattle.mon_formats.specs.declared.format.Format.TheVariants.{Html, Json, OpenMetrics}
use Rattle.mon_formats.specs.declared.format.Format.TheVariants.{Prometheus}
use Rattle.mon_page.specs.declared.figures.Figures.{Figures}
use Rattle.mon_page.specs.declared.extras.InstanceLabels.{InstanceLabels}
use Rattle.mon_page.specs.declared.extras.Presentation.{Presentation}
use Rattle.mon_report.specs.Report.{Entry}
use Rattle.mon_rounds.specs.declared.totals.Totals.{Totals}
use Rattle.mon_rounds.specs.declared.freshness.Freshness.{Freshness}
use Rattle.mon_station.specs.State.{State}
use Rattle.mon_station_commands.specs.Figures.{AreFigures}
use Rattle.mon_file_commands.specs.Report.{entries_by}
use Rattle.mon_station_commands.specs.declared.live.Reports.{Reports}
use Rattle.mon_web.specs.Pages.{View, with_texts}
use Rattle.mon_web.specs.Texts.{Texts}

-- Texts are the report of these instances in the formats of the pages' texts: of figures for
-- which this holds, with names shown so, and with these labels, presented so.
pub record AreTexts (Holds : Figures → Type 0) (shown : List ℕ → List ℕ) (entries : List Entry)
    (labels : List InstanceLabels) (presentation : Presentation) (texts : Texts) : Type 0 where
  pub figures : Figures
  pub holds : Holds figures
  pub metrics : texts.metrics ≡ formatted Prometheus shown entries (Some figures) labels
      presentation
  pub open_metrics : texts.open_metrics ≡ formatted OpenMetrics shown entries (Some figures) labels
      presentation
  pub report : texts.report ≡ formatted Json shown entries (Some figures) labels presentation
  pub page : texts.page ≡ formatted Html shown entries (Some figures) labels presentation

-- The texts of a station: of its board as it is, of what was announced of its alarms, and of what
-- it says of itself, as AreFigures has it.
abbrev pub AreTextsOf : State → Totals → Freshness → (peers : List ℕ) (engines : List (Vec ℕ))
    (now : ℕ) (round_at : Option ℕ) → Reports → Texts → Type 0
AreTextsOf state course fresh peers engines now round_at reports =
    AreTexts (AreFigures state course fresh peers engines now round_at reports)
    (shown_by reports.printing.names)
    (entries_by state.board (announced_states course.announcer))
    reports.printing.labels.items reports.printing.presentation

-- Pages, if there are any, show texts for which this holds; or none, if there was no memory for
-- them.
pub record IsShown (Holds : Texts → Type 0) (old new : Option View) : Type 0 where
  pub texts : Option Texts
  pub holds : IfSome texts Holds
  pub shown : new ≡ option_map (with_texts texts) old
