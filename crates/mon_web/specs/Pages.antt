-- What a station shows over HTTP, and what it answers to a request.
use Rattle.std.specs.Prelude.{ℕ, ◌-◌, ◌/◌, Bool, false, IfSome, List, map, string_bytes, Option}
use Rattle.std.specs.Prelude.{Some, None, codes, nat_le, option_map, if◌then◌else◌}
use Rattle.mon_http.specs.declared.response.Status.TheVariants.{Success, ServiceUnavailable}
use Rattle.mon_http.specs.declared.response.Media.TheVariants.{Prometheus}
use Rattle.mon_http.specs.declared.response.Media.TheVariants.{OpenMetrics as OpenMetricsText, Json}
use Rattle.mon_http.specs.declared.response.Media.TheVariants.{Html, Plain}
use Rattle.mon_http.specs.declared.route.Route.{Route}
use Rattle.mon_http.specs.declared.route.Route.TheVariants.{Metrics, OpenMetrics, Report, Page}
use Rattle.mon_http.specs.declared.route.Route.TheVariants.{Health}
use Rattle.mon_http.specs.Response.{Reply, healthy_reply, unhealthy_reply}
use Rattle.mon_http.specs.declared.answer.LastRound.{LastRound}
use Rattle.mon_web.specs.Texts.{Texts}
use Rattle.mon_web.specs.declared.content.Text.{Text}
use Rattle.mon_web.specs.declared.content.Text.TheVariants as texts
use Rattle.mon_web.specs.declared.pages.Ended.{Ended}
use Rattle.mon_web.specs.declared.pages.Pages.{Pages}

-- what pages answer by: the names of hosts that it serves, besides localhost and addresses; what
-- its texts say, if it has any; the end of the last round, and how long after it the station is
-- healthy
pub record View : Type 0 where
  pub names : List (List ℕ)
  pub texts : Option Texts
  pub ended : Option Ended
  pub limit : ℕ

-- what pages answer by, whose content says so
abbrev pub view_of : {C : Type 0} → (says : C → Texts) → Pages C → View
view_of says pages = record {
  names = map string_bytes pages.names.items;
  texts = option_map says pages.content;
  ended = pages.ended;
  limit = pages.limit;
}

-- content has the text for a route, if there is content and the route has a text
abbrev pub IsMadeFor : {C : Type 0} → (made : C → Text → Type 0) → Option C → Route → Type 0
IsMadeFor made content Metrics = IfSome content (λ c. made c texts.Metrics)
IsMadeFor made content OpenMetrics = IfSome content (λ c. made c texts.OpenMetrics)
IsMadeFor made content Report = IfSome content (λ c. made c texts.Report)
IsMadeFor made content Page = IfSome content (λ c. made c texts.Page)
IsMadeFor made content Health = Unit {0}

-- rounds end in time: one ended, and at most `limit` ago
abbrev pub is_healthy : Option Ended → ℕ → ℕ → Bool
is_healthy None limit now = false
is_healthy (Some ended) limit now = nat_le (now - ended.at) limit

-- the end of the round of this number at this time, in milliseconds
abbrev pub ended_at : ℕ → ℕ → Ended
ended_at at number = record { round = number; at = at }

-- which round ended, and how many whole seconds before now; 0 if it ended later
abbrev pub last_round : ℕ → Ended → LastRound
last_round now ended = record { number = ended.round; seconds = (now - ended.at) / 1000 }

-- 503, since there is no memory for what was asked for
abbrev pub out_of_memory : Reply
out_of_memory = record {
  status = ServiceUnavailable;
  media = Plain;
  body = codes "out of memory\n";
}

-- 200 if rounds end in time, else 503; and which round ended last, if any did
abbrev pub health_reply : Option Ended → ℕ → ℕ → Reply
health_reply None limit now = unhealthy_reply None
health_reply (Some ended) limit now =
    if is_healthy (Some ended) limit now then healthy_reply (last_round now ended)
    else unhealthy_reply (Some (last_round now ended))

-- the reply with the figures
abbrev pub metrics_reply : Texts → Reply
metrics_reply texts = record { status = Success; media = Prometheus; body = texts.metrics }

-- the reply with the figures in OpenMetrics
abbrev pub open_metrics_reply : Texts → Reply
open_metrics_reply texts =
    record { status = Success; media = OpenMetricsText; body = texts.open_metrics }

-- the reply with the report
abbrev pub report_reply : Texts → Reply
report_reply texts = record { status = Success; media = Json; body = texts.report }

-- the reply with the page
abbrev pub page_reply : Texts → Reply
page_reply texts = record { status = Success; media = Html; body = texts.page }

-- the reply with one of the texts, or 503 if there was no memory for them
abbrev pub text_reply : (Texts → Reply) → Option Texts → Reply
text_reply reply None = out_of_memory
text_reply reply (Some texts) = reply texts

-- the reply of pages to a request for a route at this time
abbrev pub reply_for : View → ℕ → Route → Reply
reply_for view now Metrics = text_reply metrics_reply view.texts
reply_for view now OpenMetrics = text_reply open_metrics_reply view.texts
reply_for view now Report = text_reply report_reply view.texts
reply_for view now Page = text_reply page_reply view.texts
reply_for view now Health = health_reply view.ended view.limit now

-- pages with these texts
abbrev pub with_texts : Option Texts → View → View
with_texts texts view = record view { texts = texts }

-- the pages of a station whose last round had this number and ended at this time
abbrev pub with_round : ℕ → ℕ → View → View
with_round at number view = record view { ended = Some (ended_at at number) }
