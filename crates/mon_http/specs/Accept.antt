-- Which format of the figures a request accepts (RFC 9110, sections 12.4.2 and 12.5.1).
use Rattle.std.specs.Prelude.{ℕ, ◌+◌, ◌-◌, ◌*◌, Bool, true, false, not, ◌&&◌, ◌||◌, List, [], ◌∷◌}
use Rattle.std.specs.Prelude.{map, fold, length, take, drop, slice_index, Option, Some, None, codes}
use Rattle.std.specs.Prelude.{◌==◌, nat_le, nat_lt, bytes_eq, flat_map, if◌then◌else◌}
use Rattle.std.specs.List.{list_all}
use Rattle.std.specs.Option.{is_some}
use Rattle.std.specs.Borrow.{Bor}
use Rattle.std.specs.Char.{is_ascii_digit}
use Rattle.httparse.specs.Grammar.{is_token, trim_ows}
use Rattle.http1.specs.Fields.{Header, cons_first, is_named}
use Rattle.http1.specs.Text.{eq_ignore_case}
use Rattle.mon_http.specs.Route.{before}
use Rattle.mon_http.specs.declared.accept.Exposition.{Exposition}
use Rattle.mon_http.specs.declared.accept.Exposition.TheVariants.{Text, OpenMetrics}
use Rattle.mon_http.specs.declared.accept.Parts.{Parts}
use Rattle.mon_http.specs.declared.accept.Preference.{Preference}

-- the pieces of a text between octets that are `end`
abbrev pub pieces : (end : ℕ) → List ℕ → List (List ℕ)
pieces end [] = [] ∷ []
pieces end (b ∷ bs) = if b == end then [] ∷ pieces end bs else cons_first b (pieces end bs)

-- the pieces without the white space around each (RFC 9110, section 5.6.3)
unfoldable pub parts : (end : ℕ) → List ℕ → List (List ℕ)
parts end text = map trim_ows (pieces end text)

-- the parts of a text, or none if there is no text
abbrev pub parts_if : (end : ℕ) → Option (Bor (List ℕ)) → List (List ℕ)
parts_if end None = []
parts_if end (Some text) = parts end text.now

-- the parts that are not given yet
abbrev pub parts_left : Parts → List (List ℕ)
parts_left p = parts_if p.end p.rest

-- what follows the first octet that is `end`, or nothing
abbrev pub after_first : (end : ℕ) → List ℕ → List ℕ
after_first end text = drop (length (before end end text) + 1) text

-- the text has an octet that is `end`
abbrev pub has_octet : (end : ℕ) → List ℕ → Bool
has_octet end text = nat_lt (length (before end end text)) (length text)

-- The media type of a media range, before its parameters.
abbrev pub kind_of : (range : List ℕ) → List ℕ
kind_of range = trim_ows (before 59 59 range)

-- the parameters of a media range: what is between semicolons after its media type
abbrev pub parameters_of : (range : List ℕ) → List (List ℕ)
parameters_of range = if has_octet 59 range then parts 59 (after_first 59 range) else []

-- Two tokens with an octet between them.
abbrev pub is_pair : (between : ℕ) → List ℕ → Bool
is_pair between text =
    has_octet between text && (is_token (before between between text)
    && is_token (after_first between text))

-- A type and a subtype (RFC 9110, section 8.3.1). The asterisk of `*/*` and `text/*` is a token
-- too.
abbrev pub is_kind : List ℕ → Bool
is_kind text = is_pair 47 text

-- A parameter (RFC 9110, section 5.6.6), or nothing, which may be where one could be. Its value is
-- a token here: a field with a quoted string counts as one that is not by the grammar.
abbrev pub is_parameter : List ℕ → Bool
is_parameter text = (length text == 0) || is_pair 61 text

-- the parameter has this name, in any case
abbrev pub has_name : (name parameter : List ℕ) → Bool
has_name name parameter = has_octet 61 parameter && eq_ignore_case (before 61 61 parameter) name

-- the value of the first parameter of this name
abbrev pub value_in : (name : List ℕ) → (parameters : List (List ℕ)) → Option (List ℕ)
value_in name [] = None
value_in name (p ∷ ps) = if has_name name p then Some (after_first 61 p) else value_in name ps

-- the digit at a place, or 0 if the text is shorter
abbrev pub digit_at : List ℕ → ℕ → ℕ
digit_at text place = slice_index text place - 48

-- the thousandths that up to three digits after a point mean
abbrev pub thousandths_of : (digits : List ℕ) → ℕ
thousandths_of digits = 100 * digit_at digits 0 + 10 * digit_at digits 1 + digit_at digits 2

-- 0 or 1, and maybe a point with up to three digits
abbrev pub is_decimal : List ℕ → Bool
is_decimal text = ((slice_index text 0 == 48) || (slice_index text 0 == 49))
    && (((length text == 1) || (slice_index text 1 == 46))
    && (nat_le (length text) 5 && list_all is_ascii_digit (drop 2 text)))

-- such a number in thousandths
abbrev pub decimal_of : List ℕ → ℕ
decimal_of text = 1000 * digit_at text 0 + thousandths_of (drop 2 text)

-- A quality value in thousandths (RFC 9110, section 12.4.2): such a number up to 1.
abbrev pub quality_value : List ℕ → Option ℕ
quality_value text =
    if is_decimal text && nat_le (decimal_of text) 1000 then Some (decimal_of text) else None

-- the quality that a parameter `q` has; 1 if there is none
abbrev pub quality_by : (q : Option (List ℕ)) → Option ℕ
quality_by None = Some 1000
quality_by (Some text) = quality_value text

-- The quality of a media range in thousandths. Its parameter named `q` is its weight wherever it
-- is (RFC 9110, section 12.5.1), and the first if there are several.
abbrev pub quality_of : (range : List ℕ) → Option ℕ
quality_of range = quality_by (value_in (codes "q") (parameters_of range))

-- a media range with its parameters and weight
abbrev pub is_range : List ℕ → Bool
is_range text =
    is_kind (kind_of text) && (list_all is_parameter (parameters_of text)
    && is_some (quality_of text))

-- an element of the list: a media range, or nothing, which is ignored (RFC 9110, section 5.6.1.2)
abbrev pub is_element : List ℕ → Bool
is_element text = (length text == 0) || is_range text

-- The elements of a request's fields `Accept`. Several fields are one list (RFC 9110, section 5.3).
abbrev pub accepted : List Header → List (List ℕ)
accepted fields = flat_map (λ h. if is_named (codes "accept") h then parts 44 h.1 else []) fields

-- How exactly a media type of a range names that of a format: 3 by its type and subtype, 2 by its
-- type, 1 as any, 0 not at all. OpenMetrics must be named by its subtype, so that who takes
-- anything gets the text format.
abbrev pub exactness : Exposition → (kind : List ℕ) → ℕ
exactness OpenMetrics kind =
    if eq_ignore_case kind (codes "application/openmetrics-text") then 3 else 0
exactness Text kind =
    if eq_ignore_case kind (codes "text/plain") then 3
    else if eq_ignore_case kind (codes "text/*") then 2
    else if eq_ignore_case kind (codes "*/*") then 1
    else 0

-- the version of a format
abbrev pub version_of : Exposition → List ℕ
version_of OpenMetrics = codes "1.0.0"
version_of Text = codes "0.0.4"

-- How specific a range of this exactness is, by its parameter `version`: more with the format's own
-- version, and it does not name the format (0) with another one.
abbrev pub specificity_by : (exactness : ℕ) → (version : List ℕ) → Option (List ℕ) → ℕ
specificity_by exactness version None = 2 * exactness
specificity_by exactness version (Some named) =
    if bytes_eq named version && nat_lt 0 exactness then 2 * exactness + 1 else 0

-- How specific a range is about a format. Parameters other than `version` do not matter.
abbrev pub specificity : Exposition → (range : List ℕ) → ℕ
specificity format range = specificity_by (exactness format (kind_of range)) (version_of format)
    (value_in (codes "version") (parameters_of range))

-- no preference: a format that no range names is not preferred
abbrev pub no_preference : Preference
no_preference = record { specificity = 0; quality = 0 }

-- the preference of a range of this specificity and quality
abbrev pub preference_by : (specificity : ℕ) → (quality : Option ℕ) → Preference
preference_by specificity None = no_preference
preference_by specificity (Some quality) =
    if nat_lt 0 specificity then record { specificity = specificity; quality = quality }
    else no_preference

-- what a range says about a format
abbrev pub preference_for : Exposition → (range : List ℕ) → Preference
preference_for format range = preference_by (specificity format range) (quality_of range)

-- a preference decides over another: it is more specific, or as specific with a greater quality
abbrev pub is_above : Preference → Preference → Bool
is_above a b = nat_lt b.specificity a.specificity
    || ((b.specificity == a.specificity) && nat_lt b.quality a.quality)

-- the one of two preferences that decides
abbrev pub decisive : Preference → Preference → Preference
decisive a b = if is_above b a then b else a

-- The preference of a list for a format: that of its most specific range that names it (RFC 9110,
-- section 12.5.1), and of several such the greatest.
abbrev pub preference_in : Exposition → (elements : List (List ℕ)) → Preference
preference_in format elements = fold decisive no_preference (map (preference_for format) elements)

-- OpenMetrics is preferred, and at least as much as the text format
abbrev pub prefers_open_metrics : (elements : List (List ℕ)) → Bool
prefers_open_metrics elements = nat_lt 0 (preference_in OpenMetrics elements).quality
    && nat_le (preference_in Text elements).quality (preference_in OpenMetrics elements).quality

-- A request gets OpenMetrics if its fields `Accept` are by the grammar and prefer it. Fields that
-- are not count as absent.
unfoldable pub accepts_open_metrics : List Header → Bool
accepts_open_metrics fields =
    list_all is_element (accepted fields) && prefers_open_metrics (accepted fields)
