-- What a request asks for, and what octets are answered by.
use Rattle.std.specs.Prelude.{◌≡◌, ℕ, ◌≤◌, ◌<◌, ◌⊎◌, Bool, true, false, not, ◌&&◌, ◌||◌, List, []}
use Rattle.std.specs.Prelude.{length, map, take, codes, ◌==◌, nat_lt, bytes_eq, Option, Some, None}
use Rattle.std.specs.Prelude.{option_map, MatchOption, MatchBool, if◌then◌else◌}
use Rattle.std.specs.List.{list_any}
use Rattle.httparse.specs.Grammar.{RequestHead, ReadsRequest}
use Rattle.httparse.specs.Spans.{name_and_value}
use Rattle.http1.specs.Fields.{known_fields}
use Rattle.http1.specs.declared.fields.KnownFields.{KnownFields}
use Rattle.http1.specs.declared.fields.ContentLength.{ContentLength}
use Rattle.http1.specs.declared.fields.ContentLength.TheVariants as Length
use Rattle.http1.specs.declared.fields.TransferEncoding.{TransferEncoding}
use Rattle.http1.specs.declared.fields.TransferEncoding.TheVariants as Coding
use Rattle.mon_http.specs.declared.response.Status.{Status}
use Rattle.mon_http.specs.declared.response.Status.TheVariants.{
  BadRequest,
  NotFound,
  MethodNotAllowed,
  UriTooLong,
  Misdirected,
  HeaderFieldsTooLarge,
  NotImplemented,
  VersionNotSupported,
}
use Rattle.mon_http.specs.declared.route.Route.{Route}
use Rattle.mon_http.specs.declared.request.Verdict.{Verdict}
use Rattle.mon_http.specs.declared.request.Verdict.TheVariants.{Asked, Refused}
use Rattle.mon_http.specs.Host.{has_good_hosts, host_field, host_of, is_served_host}
use Rattle.mon_http.specs.Accept.{accepts_open_metrics}
use Rattle.mon_http.specs.Route.{by_format, path_of, route_at}
use Rattle.mon_http.specs.Front.{head_length, line_count, names_other_version}

-- the connection stays open after the answer (RFC 9112, section 9.3); HTTP/1.0 closes
abbrev pub stays_open : ℕ → KnownFields → Bool
stays_open minor known = (minor == 1) && not known.close

-- the request has no content: no coding, and no length but 0 (RFC 9112, section 6)
abbrev pub has_no_content : TransferEncoding → ContentLength → Bool
has_no_content Coding.Absent Length.Absent = true
has_no_content Coding.Absent (Length.Value n) = n == 0
has_no_content _ _ = false

-- HTTP/1.1 has one field Host, HTTP/1.0 at most one (RFC 9112, section 3.2)
abbrev pub has_host : ℕ → ℕ → Bool
has_host minor hosts = (hosts == 1) || ((minor == 0) && (hosts == 0))

-- the fields are those of a request that is served
abbrev pub has_good_fields : ℕ → KnownFields → Bool
has_good_fields minor known =
    has_host minor known.hosts && has_no_content known.transfer_encoding known.content_length

-- GET or HEAD (RFC 9110, section 9.3)
abbrev pub is_served : List ℕ → Bool
is_served method = bytes_eq method (codes "GET") || bytes_eq method (codes "HEAD")

-- a refusal of the request of this length
abbrev pub refusal : Status → Bool → ℕ → Verdict
refusal status keep_alive len = Refused (record {
  status = status;
  keep_alive = keep_alive;
  len =
      len;
})

-- a request for a route, or 404 if there is no route (RFC 9110, section 15.5.5); only GET is
-- answered with the body
abbrev pub routed : List ℕ → Bool → ℕ → Option Route → Verdict
routed method keep_alive len None = refusal NotFound keep_alive len
routed method keep_alive len (Some route) =
    Asked (record {
      route = route;
      with_body = bytes_eq method (codes "GET");
      keep_alive =
          keep_alive;
      len = len;
    })

-- a method of HTTP that is not served (RFC 9110, section 9.3, and RFC 5789)
abbrev pub is_known : List ℕ → Bool
is_known method = bytes_eq method (codes "POST") || (bytes_eq method (codes "PUT")
    || (bytes_eq method (codes "DELETE")
    || (bytes_eq method (codes "CONNECT") || (bytes_eq method (codes "OPTIONS")
    || (bytes_eq method (codes "TRACE")
    || bytes_eq method (codes "PATCH"))))))

-- why a method is not served: 405 for one that is known (RFC 9110, section 15.5.6), else 501
-- (section 15.6.2)
abbrev pub method_status : List ℕ → Status
method_status method = if is_known method then MethodNotAllowed else NotImplemented

-- a request with good fields for a host that is served, which accepts OpenMetrics or does not
abbrev pub served : List ℕ → List ℕ → (open_metrics keep_alive : Bool) → ℕ → Verdict
served method target open_metrics keep_alive len =
    if is_served method
    then routed method keep_alive len (option_map (by_format open_metrics)
    (route_at (path_of target)))
    else refusal (method_status method) keep_alive len

-- a request with good fields for this host: 421 if it is not served (RFC 9110, section 15.5.20)
abbrev pub directed : List (List ℕ) → List ℕ → List ℕ → List ℕ → (open_metrics keep_alive : Bool)
    → ℕ
    → Verdict
directed names host method target open_metrics keep_alive len =
    if is_served_host names host then served method target open_metrics keep_alive len
    else refusal Misdirected keep_alive len

-- What a request of these parts and this length asks for, or why it is refused. Its field Host has
-- this value, its fields Accept prefer OpenMetrics or do not, and these names are served.
unfoldable pub judged : List (List ℕ) → List ℕ → List ℕ → ℕ → KnownFields → List ℕ
    → (open_metrics : Bool) → ℕ → Verdict
judged names method target minor known field open_metrics len =
    if has_good_fields minor known && has_good_hosts target field
    then directed names (host_of target field) method target open_metrics (stays_open minor known)
    len
    else refusal BadRequest false len

-- what a request head of this length asks for, or why it is refused
abbrev pub verdict_of : List (List ℕ) → RequestHead → ℕ → Verdict
verdict_of names h len = let fields = map name_and_value h.fields in
    judged names h.method h.target h.minor (known_fields fields) (host_field fields)
    (accepts_open_metrics fields) len

-- the most octets of a head
abbrev pub most_octets : ℕ
most_octets = 8192

-- the most lines of a head: the request line, 32 fields and the empty line
abbrev pub most_lines : ℕ
most_lines = 34

-- why a head that is no request is refused: 505 for another version (RFC 9110, section 15.6.6),
-- else 400 (section 15.5.1)
abbrev pub bad_status : List ℕ → Status
bad_status head = if names_other_version head then VersionNotSupported else BadRequest

-- the head is a request of the grammar, and has this verdict
abbrev pub IsGood : List (List ℕ) → List ℕ → Verdict → Type 0
IsGood names head verdict = (h : RequestHead) × ReadsRequest head h []
    × (verdict ≡ verdict_of names h (length head))

-- the head is no request of the grammar, and is refused
abbrev pub IsBad : List ℕ → Verdict → Type 0
IsBad head verdict =
    ((h : RequestHead) → ReadsRequest head h [] → ⊥) × (verdict
    ≡ refusal (bad_status head) false (length head))

-- what a head that ends with its empty line comes to: 431 with too many lines (RFC 6585, section 5)
unfoldable pub IsVerdict : List (List ℕ) → List ℕ → Verdict → Type 0
IsVerdict names head verdict =
    MatchBool (nat_lt most_lines (line_count head)) (verdict
    ≡ refusal HeaderFieldsTooLarge false (length head))
    (IsGood names head verdict ⊎ IsBad head verdict)

-- no head ends within the octets, and more may come
abbrev pub IsQuiet : List ℕ → Type 0
IsQuiet octets = (head_length false octets ≡ None) × (length octets < most_octets)

-- no head ends within the octets, and there are more than one may have
abbrev pub IsTooLong : List ℕ → Type 0
IsTooLong octets = (head_length false (take most_octets octets) ≡ None)
    × (most_octets ≤ length octets)

-- a head ends within the octets, and has this verdict
abbrev pub HasVerdict : List (List ℕ) → List ℕ → Verdict → Type 0
HasVerdict names octets verdict =
    (n : ℕ) × (head_length false (take most_octets octets) ≡ Some n)
    × IsVerdict names (take n octets) verdict

-- Why octets are too long for a head. Its request line has ended: 431. Its target has not: 414 (RFC
-- 9110, section 15.5.15). Its method has not: 501 (RFC 9112, section 3).
abbrev pub long_status : List ℕ → Status
long_status octets =
    if list_any (λ b. b == 10) octets then HeaderFieldsTooLarge
    else if list_any (λ b. b == 32) octets then UriTooLong
    else NotImplemented

-- what the front of the octets comes to, where it is a head or too long for one
unfoldable pub IsJudged : List (List ℕ) → List ℕ → Verdict → Type 0
IsJudged names octets verdict =
    HasVerdict names octets verdict ⊎ (IsTooLong octets × (verdict
    ≡ refusal (long_status (take most_octets octets)) false 0))

-- the verdict, or None while more octets are needed
abbrev pub IsProgress : List (List ℕ) → List ℕ → Option Verdict → Type 0
IsProgress names octets progress = MatchOption progress (IsQuiet octets)
    (λ verdict. IsJudged names octets verdict)
