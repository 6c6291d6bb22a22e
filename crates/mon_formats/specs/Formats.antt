-- The formats of a report. Each is a function of the instances' windows and rules, of how names are
-- shown, and for all but the lines of text of what the station says of itself; for all but the
-- lines of text and JSON also of the labels that are given for instances; and for a page and a
-- table of how they present it. Of the presentation Prometheus' text and OpenMetrics have only
-- `station`: the number that each series of an instance has as its label `station`, if there is
-- one.
use Rattle.std.specs.Prelude.{ℕ, List, Option}
use Rattle.mon_board.specs.Watch.{Watch}
use Rattle.mon_window.specs.Window.{Samples}
use Rattle.mon_report.specs.Report.{Entry, entries_from}
use Rattle.mon_page.specs.declared.extras.InstanceLabels.{InstanceLabels}
use Rattle.mon_page.specs.declared.extras.Presentation.{Presentation}
use Rattle.mon_page.specs.declared.figures.Figures.{Figures}
use Rattle.mon_page.specs.Labelled.{labelled}
use Rattle.mon_page.specs.Page.{page_text}
use Rattle.mon_formats.specs.declared.format.Format.{Format}
use Rattle.mon_formats.specs.declared.format.Format.TheVariants.{Text, Json, Prometheus}
use Rattle.mon_formats.specs.declared.format.Format.TheVariants.{OpenMetrics, Columns, Html}
use Rattle.mon_formats.specs.declared.prometheus.text.Exposition.TheVariants as expositions
use Rattle.mon_formats.specs.Named.{named_report}
use Rattle.mon_formats.specs.Json.{json_report}
use Rattle.mon_formats.specs.Prometheus.{prometheus_report}
use Rattle.mon_table.specs.Table.{table_report}

-- the report of some instances
abbrev pub formatted : Format → (List ℕ → List ℕ) → List Entry → Option Figures
    → List InstanceLabels → Presentation → List ℕ
formatted Text shown entries station labels presentation = named_report shown entries
formatted Json shown entries station labels presentation = json_report shown entries station
formatted Prometheus shown entries station labels presentation =
    prometheus_report expositions.Prometheus presentation.station shown (labelled labels entries)
    station
formatted OpenMetrics shown entries station labels presentation =
    prometheus_report expositions.OpenMetrics presentation.station shown (labelled labels entries)
    station
formatted Columns shown entries station labels presentation = table_report shown presentation.sort
    entries labels station
formatted Html shown entries station labels presentation = page_text shown (labelled labels entries)
    station presentation

-- the report of a watch and a window for each of its instances
abbrev pub report_in : Format → (List ℕ → List ℕ) → Watch → (ℕ → Samples) → Option Figures
    → List InstanceLabels → Presentation → List ℕ
report_in format shown watch windows station labels presentation = formatted format shown
    (entries_from watch.rules windows 0 watch.instances) station labels presentation
