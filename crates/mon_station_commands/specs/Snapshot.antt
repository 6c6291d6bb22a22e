-- What a station shows over HTTP, as it was at one time.
use Rattle.std.specs.Prelude.{◌≡◌, ℕ, false, true, List, Some}
use Rattle.mon_console.specs.Shown.{shown_by}
use Rattle.mon_formats.specs.Formats.{formatted}
use Rattle.mon_formats.specs.declared.format.Format.{Format}
use Rattle.mon_formats.specs.declared.format.Format.TheVariants.{Html, Json, OpenMetrics}
use Rattle.mon_formats.specs.declared.format.Format.TheVariants.{Prometheus}
use Rattle.mon_file_commands.specs.Report.{entries_by}
use Rattle.mon_station_commands.specs.declared.snapshot.Draft.{Draft}
use Rattle.mon_station_commands.specs.declared.snapshot.Drafts.{Drafts}
use Rattle.mon_station_commands.specs.declared.snapshot.Source.{Source}
use Rattle.mon_web.specs.Texts.{Texts}
use Rattle.mon_web.specs.declared.content.Text.{Text}
use Rattle.mon_web.specs.declared.content.Text.TheVariants as texts

-- the report of a source in this format
abbrev pub report_of : Format → Source → List ℕ
report_of format source = formatted format (shown_by source.printing.names)
    (entries_by source.board source.states.items) (Some source.figures)
    source.printing.labels.items source.printing.presentation

-- the report of a source in the formats of the pages' three routes, of which the figures have two
abbrev pub texts_of : Source → Texts
texts_of source = record {
  metrics = report_of Prometheus source;
  open_metrics = report_of OpenMetrics source;
  report = report_of Json source;
  page = report_of Html source;
}

-- a text, if it is made, says this
abbrev pub IsRight : List ℕ → Draft → Type 0
IsRight says draft = draft.is_made ≡ true → draft.text.items ≡ says

-- the texts that are made say this
pub record AreRight (says : Texts) (drafts : Drafts) : Type 0 where
  pub metrics : IsRight says.metrics drafts.metrics
  pub open_metrics : IsRight says.open_metrics drafts.open_metrics
  pub report : IsRight says.report drafts.report
  pub page : IsRight says.page drafts.page

-- no text is made
abbrev pub AreBlank : Drafts → Type 0
AreBlank drafts = (drafts.metrics.is_made ≡ false) × (drafts.open_metrics.is_made ≡ false)
    × (drafts.report.is_made ≡ false) × (drafts.page.is_made ≡ false)

-- one of the texts
abbrev pub draft_for : Text → Drafts → Draft
draft_for texts.Metrics drafts = drafts.metrics
draft_for texts.OpenMetrics drafts = drafts.open_metrics
draft_for texts.Report drafts = drafts.report
draft_for texts.Page drafts = drafts.page
