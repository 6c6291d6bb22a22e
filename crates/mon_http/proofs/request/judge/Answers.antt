use Rattle.std.proofs.Common.{◌≡◌, ◌≤◌, ◌<◌, ◌∙◌, ap, sym, subst, ℕ, Bool, List, length, false, map, take, rules}
use Rattle.std.specs.Prelude.{string_bytes}
use Rattle.httparse.specs.Spans.{span_bytes, header_bytes}
use Rattle.http1.specs.Fields.{known_fields}
use Rattle.http1.specs.declared.fields.KnownFields.{KnownFields}
use Rattle.mon_http.specs.declared.response.Status.{Status}
use Rattle.mon_http.specs.Request.{refusal, judged}
use Rattle.mon_http.specs.Host.{host_field}
use Rattle.mon_http.proofs.Verdicts.{bad_verdict, not_whole, read_verdict, large_verdict}
use Rattle.mon_http.proofs.request.judge.Goals as goal

pub returns-in-None : goal.returns-in-None
returns-in-None c =
    let names = map string_bytes c.args.names.now in
    let head = c.args.head.now in
    let few = subst (λ (n : ℕ). n ≤ 34) c.line_count.ensures c.if-line_count-gt-MAX_LINES.false in
    bad_verdict names head c.refuse-in-None.result few
    (not_whole names head _ c.parse_request.result c.parse_request.ensures.found (sym c.whole.ensures ∙ c.in-None.is))
    (c.refuse-in-None.ensures ∙ ap (λ (s : Status). refusal s false (length head)) c.bad_status.ensures)

pub returns-in-Some : goal.returns-in-Some
returns-in-Some c =
    let names = map string_bytes c.args.names.now in
    let head = c.args.head.now in
    let few = subst (λ (n : ℕ). n ≤ 34) c.line_count.ensures c.if-line_count-gt-MAX_LINES.false in
    let spans = c.in-Some.found in
    let n = length head in
    let fields : List (List ℕ × List ℕ) = map (header_bytes head) (take spans.headers c.parse_request.new.headers) in
    let known : c.from_spans-known.result ≡ known_fields fields = search (rules, c.from_spans-known.ensures) in
    read_verdict names head _ c.parse_request.result spans c.judged.result few (sym c.whole.ensures ∙ c.in-Some.is) c.parse_request.ensures.complete
    (c.judged.ensures
    ∙ ap (λ (m : List ℕ). judged names m c.of-in-Some.result.now spans.version c.from_spans-known.result c.host_field.result.now c.accepts_open_metrics.result n) c.of.ensures
    ∙ ap (λ (t : List ℕ). judged names (span_bytes head spans.method) t spans.version c.from_spans-known.result c.host_field.result.now c.accepts_open_metrics.result n) c.of-in-Some.ensures
    ∙ ap (λ (k : KnownFields). judged names (span_bytes head spans.method) (span_bytes head spans.path) spans.version k c.host_field.result.now c.accepts_open_metrics.result n) known
    ∙ ap (λ (f : List ℕ). judged names (span_bytes head spans.method) (span_bytes head spans.path) spans.version (known_fields fields) f c.accepts_open_metrics.result n) c.host_field.ensures
    ∙ ap (λ (b : Bool). judged names (span_bytes head spans.method) (span_bytes head spans.path) spans.version (known_fields fields) (host_field fields) b n) c.accepts_open_metrics.ensures)

pub returns-then-line_count-gt-MAX_LINES : goal.returns-then-line_count-gt-MAX_LINES
returns-then-line_count-gt-MAX_LINES c =
    large_verdict (map string_bytes c.args.names.now) c.args.head.now c.refuse.result (subst (λ (n : ℕ). 34 < n) c.line_count.ensures c.if-line_count-gt-MAX_LINES.true) c.refuse.ensures
