-- The text of a response (RFC 9112, section 4; RFC 9110, sections 8.3, 8.6 and 15).
use Rattle.std.specs.Prelude.{ℕ, Bool, true, false, List, [], ◌++◌, Option, Some, None, codes}
use Rattle.std.specs.Prelude.{decimal, length, if◌then◌else◌}
use Rattle.httpdate.specs.Date.{date_text}
use Rattle.httpdate.specs.declared.date.HttpDate.{HttpDate as Date}
use Rattle.mon_http.specs.declared.response.Status.{Status}
use Rattle.mon_http.specs.declared.response.Status.TheVariants.{
  Success,
  BadRequest,
  NotFound,
  MethodNotAllowed,
  UriTooLong,
  Misdirected,
  HeaderFieldsTooLarge,
  NotImplemented,
  ServiceUnavailable,
  VersionNotSupported,
}
use Rattle.mon_http.specs.declared.response.Media.{Media}
use Rattle.mon_http.specs.declared.response.Media.TheVariants.{Prometheus}
use Rattle.mon_http.specs.declared.response.Media.TheVariants.{OpenMetrics as OpenMetricsText, Json}
use Rattle.mon_http.specs.declared.response.Media.TheVariants.{Html, Plain}
use Rattle.mon_http.specs.declared.response.Head.{Head}
use Rattle.mon_http.specs.declared.answer.LastRound.{LastRound}
use Rattle.mon_http.specs.declared.answer.Answer.{Answer}
use Rattle.mon_http.specs.declared.answer.Answer.TheVariants as An
use Rattle.mon_http.specs.declared.body.Body.{Body}
use Rattle.mon_http.specs.declared.route.Route.{Route}
use Rattle.mon_http.specs.declared.route.Route.TheVariants.{Metrics, OpenMetrics, Report, Page}
use Rattle.mon_http.specs.declared.route.Route.TheVariants.{Health}
use Rattle.mon_http.specs.declared.request.Request.{Request}
use Rattle.mon_http.specs.declared.request.Refusal.{Refusal}

-- status code and reason phrase (RFC 9110, section 15; 431: RFC 6585, section 5)
abbrev pub status_text : Status → List ℕ
status_text Success = codes "200 OK"
status_text BadRequest = codes "400 Bad Request"
status_text NotFound = codes "404 Not Found"
status_text MethodNotAllowed = codes "405 Method Not Allowed"
status_text UriTooLong = codes "414 URI Too Long"
status_text Misdirected = codes "421 Misdirected Request"
status_text HeaderFieldsTooLarge = codes "431 Request Header Fields Too Large"
status_text NotImplemented = codes "501 Not Implemented"
status_text ServiceUnavailable = codes "503 Service Unavailable"
status_text VersionNotSupported = codes "505 HTTP Version Not Supported"

-- the field Allow, which a 405 has (RFC 9110, section 15.5.6)
abbrev pub allow_field : Status → List ℕ
allow_field MethodNotAllowed = codes "Allow: GET, HEAD\r\n"
allow_field _ = []

-- the media type (RFC 9110, section 8.3); that of OpenMetrics is of its specification, section
-- "Media Type"
abbrev pub media_text : Media → List ℕ
media_text Prometheus = codes "text/plain; version=0.0.4; charset=utf-8"
media_text OpenMetricsText = codes "application/openmetrics-text; version=1.0.0; charset=utf-8"
media_text Json = codes "application/json"
media_text Html = codes "text/html; charset=utf-8"
media_text Plain = codes "text/plain; charset=utf-8"

-- a page loads nothing and runs no script; only styles in the page itself hold (Content Security
-- Policy Level 3)
abbrev pub policy_field : Media → List ℕ
policy_field Html = codes
    "Content-Security-Policy: default-src 'none'; style-src 'unsafe-inline'; base-uri 'none'; form-action 'none'; frame-ancestors 'none'\r\n"
policy_field _ = []

-- the connection option (RFC 9112, section 9.6)
abbrev pub connection_text : Bool → List ℕ
connection_text keep_alive = if keep_alive then codes "keep-alive" else codes "close"

-- a field line (RFC 9112, section 5)
unfoldable pub field_text : List ℕ → List ℕ → List ℕ
field_text name value = name ++ codes ": " ++ value ++ codes "\r\n"

-- the status line (RFC 9112, section 4)
unfoldable pub status_line : Status → List ℕ
status_line status = codes "HTTP/1.1 " ++ status_text status ++ codes "\r\n"

-- when the response was made, where the station has a clock (RFC 9110, section 6.6.1)
unfoldable pub date_field : Option Date → List ℕ
date_field None = []
date_field (Some date) = field_text (codes "Date") (date_text date)

-- the type of the body (RFC 9110, section 8.3)
unfoldable pub type_field : Media → List ℕ
type_field media = field_text (codes "Content-Type") (media_text media)

-- the length of the body (RFC 9110, section 8.6)
unfoldable pub length_field : ℕ → List ℕ
length_field len = field_text (codes "Content-Length") (decimal len)

-- whether the connection stays open (RFC 9112, section 9.6)
unfoldable pub connection_field : Bool → List ℕ
connection_field keep_alive = field_text (codes "Connection") (connection_text keep_alive)

-- not to be cached (RFC 9111, section 5.2.2.5), nor taken for another type (Fetch Standard,
-- "X-Content-Type-Options")
unfoldable pub guard_fields : List ℕ
guard_fields = field_text (codes "Cache-Control") (codes "no-store")
    ++ field_text (codes "X-Content-Type-Options") (codes "nosniff")

-- the fields that only some responses have, and the empty line
unfoldable pub last_fields : Status → Media → List ℕ
last_fields status media = policy_field media ++ allow_field status ++ codes "\r\n"

-- status line, header section and the empty line (RFC 9112, section 2.1)
unfoldable pub head_text : Head → List ℕ
head_text head =
    status_line head.status ++ date_field head.date ++ type_field head.media
    ++ length_field head.len
    ++ connection_field head.keep_alive ++ guard_fields ++ last_fields head.status head.media

-- the body, or none in an answer to HEAD (RFC 9110, section 9.3.2)
abbrev pub sent_body : Bool → List ℕ → List ℕ
sent_body with_body body = if with_body then body else []

-- what is answered to a request: its status, the type of its body, and the body
pub record Reply : Type 0 where
  pub status : Status
  pub media : Media
  pub body : List ℕ

-- which round ended last, and how many whole seconds ago
unfoldable pub round_text : LastRound → List ℕ
round_text last = codes "round " ++ decimal last.number ++ codes " ended " ++ decimal last.seconds
    ++ codes " s ago\n"

-- a text, and after it the last round, if there is one
unfoldable pub text_with : List ℕ → Option LastRound → List ℕ
text_with text None = text
text_with text (Some last) = text ++ round_text last

-- the octets of a body
abbrev pub body_text : Body → List ℕ
body_text body = text_with body.text.now body.last

-- what is said if no round ended in time: which one ended last, if any did
abbrev pub unhealthy_text : Option LastRound → List ℕ
unhealthy_text None = codes "no round ended in time\n"
unhealthy_text (Some last) = codes "no round ended in time: " ++ round_text last

-- 200: rounds end in time, and this one ended last
abbrev pub healthy_reply : LastRound → Reply
healthy_reply last = record {
  status = Success;
  media = Plain;
  body = codes "ok: "
      ++ round_text last;
}

-- 503: no round ended in time; this one ended last, if any did
abbrev pub unhealthy_reply : Option LastRound → Reply
unhealthy_reply last = record {
  status = ServiceUnavailable;
  media = Plain;
  body = unhealthy_text
      last;
}

-- the reply that an answer means
abbrev pub reply_of : Answer → Reply
reply_of (An.Metrics text) = record { status = Success; media = Prometheus; body = text.now }
reply_of (An.OpenMetrics text) = record {
  status = Success;
  media = OpenMetricsText;
  body = text.now;
}
reply_of (An.Report text) = record { status = Success; media = Json; body = text.now }
reply_of (An.Page text) = record { status = Success; media = Html; body = text.now }
reply_of (An.Healthy last) = healthy_reply last
reply_of (An.Unhealthy last) = unhealthy_reply last
reply_of An.OutOfMemory = record {
  status = ServiceUnavailable;
  media = Plain;
  body = codes
      "out of memory\n";
}

-- the answer is one to a request for this route
abbrev pub fits : Route → Answer → Bool
fits Metrics (An.Metrics _) = true
fits OpenMetrics (An.OpenMetrics _) = true
fits Report (An.Report _) = true
fits Page (An.Page _) = true
fits Health (An.Healthy _) = true
fits Health (An.Unhealthy _) = true
fits _ An.OutOfMemory = true
fits _ _ = false

-- the response to a request, made at a date: Content-Length is that of the body also where none is
-- sent
abbrev pub response_text : Option Date → Request → Reply → List ℕ
response_text date request reply =
    head_text (record {
      status = reply.status;
      media = reply.media;
      len = length reply.body;
      keep_alive = request.keep_alive;
      date = date;
    })
    ++ sent_body request.with_body reply.body

-- the response of a refusal, which has no body
abbrev pub refusal_text : Option Date → Refusal → List ℕ
refusal_text date refusal =
    head_text (record {
      status = refusal.status;
      media = Plain;
      len = 0;
      keep_alive =
          refusal.keep_alive;
      date = date;
    })
