-- What is served at which request target.
use Rattle.std.specs.Prelude.{ℕ, Bool, true, false, List, [], ◌∷◌, Option, Some, None, take, drop}
use Rattle.std.specs.Prelude.{length, codes, ◌&&◌, ◌||◌, ◌==◌, nat_le, bytes_eq, if◌then◌else◌}
use Rattle.http1.specs.Text.{eq_ignore_case}
use Rattle.mon_http.specs.declared.route.Route.{Route}
use Rattle.mon_http.specs.declared.route.Route.TheVariants.{Metrics, OpenMetrics, Report, Page}
use Rattle.mon_http.specs.declared.route.Route.TheVariants.{Health}

-- the octets before the first that is one of these two
abbrev pub before : ℕ → ℕ → List ℕ → List ℕ
before a b [] = []
before a b (octet ∷ octets) = if (octet == a) || (octet == b) then [] else octet ∷ before a b octets

-- a text, or "/" where it is empty or does not begin with one
abbrev pub or_root : List ℕ → List ℕ
or_root text = if bytes_eq (take 1 text) (codes "/") then text else codes "/"

-- the target is in absolute form (RFC 9112, section 3.2.2): it begins with the scheme, in any case
abbrev pub is_absolute : List ℕ → Bool
is_absolute target = nat_le 7 (length target) && eq_ignore_case (take 7 target) (codes "http://")

-- the authority of a target in absolute form (RFC 3986, section 3.2)
abbrev pub authority_of : List ℕ → List ℕ
authority_of target = before 47 63 (drop 7 target)

-- a target in origin form: an absolute one without its scheme and authority, else the target itself
abbrev pub origin_form : List ℕ → List ℕ
origin_form target =
    if is_absolute target then or_root (drop (length (authority_of target)) (drop 7 target))
    else target

-- the path of a request target, without its query (RFC 3986, section 3.4)
abbrev pub path_of : List ℕ → List ℕ
path_of target = before 63 63 (origin_form target)

-- what is served at a path
unfoldable pub route_at : List ℕ → Option Route
route_at path =
    if bytes_eq path (codes "/metrics") then Some Metrics
    else if bytes_eq path (codes "/report.json") then Some Report
    else if bytes_eq path (codes "/") then Some Page
    else if bytes_eq path (codes "/healthz") then Some Health
    else None

-- a route, where the figures are in OpenMetrics if the request accepts it
abbrev pub by_format : (open_metrics : Bool) → Route → Route
by_format true Metrics = OpenMetrics
by_format _ route = route
