-- What the texts of pages say.
use Rattle.std.specs.Prelude.{ℕ, List}
use Rattle.mon_web.specs.declared.content.Text.{Text}
use Rattle.mon_web.specs.declared.content.Text.TheVariants.{Metrics, OpenMetrics, Report, Page}

-- the figures in Prometheus' text format and in OpenMetrics, the report as JSON, and the page
pub record Texts : Type 0 where
  pub metrics : List ℕ
  pub open_metrics : List ℕ
  pub report : List ℕ
  pub page : List ℕ

-- what one of them says
abbrev pub text_of : Text → Texts → List ℕ
text_of Metrics texts = texts.metrics
text_of OpenMetrics texts = texts.open_metrics
text_of Report texts = texts.report
text_of Page texts = texts.page
