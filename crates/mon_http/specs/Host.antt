-- The host that a request is for: what is one, and which are served (RFC 9110, section 7.2).
use Rattle.std.specs.Prelude.{ℕ, zero, suc, ◌+◌, Bool, not, ◌&&◌, ◌||◌, List, [], ◌∷◌, length, drop}
use Rattle.std.specs.Prelude.{slice_index, nat_lt, nat_le, ◌==◌, codes, count_by, if◌then◌else◌}
use Rattle.std.specs.List.{list_all, list_any}
use Rattle.std.specs.Char.{is_ascii_alphanumeric, is_ascii_digit, is_ascii_hexdigit}
use Rattle.http1.specs.Fields.{Header, is_named}
use Rattle.http1.specs.Text.{eq_ignore_case}
use Rattle.mon_http.specs.Route.{authority_of, before, is_absolute}

-- an octet of a name that means itself: unreserved or a sub-delimiter (RFC 3986, section 2)
abbrev pub is_name_octet : ℕ → Bool
is_name_octet b =
    is_ascii_alphanumeric b || (b == 45) || (b == 46) || (b == 95) || (b == 126) || (b == 33)
    || (b == 36) || (b == 38)
    || (b == 39) || (b == 40) || (b == 41) || (b == 42) || (b == 43) || (b == 44) || (b == 59)
    || (b == 61)

-- A registered name (RFC 3986, section 3.2.2), after a `%` of which this many digits are missing.
abbrev pub is_name_from : ℕ → List ℕ → Bool
is_name_from missing [] = missing == 0
is_name_from zero (b ∷ bs) = if b == 37 then is_name_from 2 bs
    else is_name_octet b && is_name_from 0 bs
is_name_from (suc missing) (b ∷ bs) = is_ascii_hexdigit b && is_name_from missing bs

-- nothing, or a colon and digits
abbrev pub is_port : List ℕ → Bool
is_port text = (length text == 0) || ((slice_index text 0 == 58)
    && list_all is_ascii_digit (drop 1 text))

-- an octet of an IPv6 address
abbrev pub is_literal_octet : ℕ → Bool
is_literal_octet b = is_ascii_hexdigit b || ((b == 58) || (b == 46))

-- how many octets come before `]`
abbrev pub literal_len : List ℕ → ℕ
literal_len rest = length (before 93 93 rest)

-- What follows `[` in a host: octets of an IPv6 address, with two colons at least, then `]` and a
-- port. The address itself is not read.
abbrev pub is_literal : List ℕ → Bool
is_literal rest = let address = before 93 93 rest in
    nat_lt (length address) (length rest) && (list_all is_literal_octet address
    && (nat_le 2 (count_by (λ b. b == 58) address) && is_port (drop (length address + 1) rest)))

-- the text begins with `[`
abbrev pub is_bracketed : List ℕ → Bool
is_bracketed text = nat_lt 0 (length text) && (slice_index text 0 == 91)

-- a host and maybe a port (RFC 9112, section 3.2): in brackets, or a name, which may be empty
abbrev pub is_host : List ℕ → Bool
is_host text =
    if is_bracketed text then is_literal (drop 1 text)
    else is_name_from 0 (before 58 58 text) && is_port (drop (length (before 58 58 text)) text)

-- the value of the first field Host, or nothing
abbrev pub host_field : List Header → List ℕ
host_field [] = []
host_field (h ∷ hs) = if is_named (codes "host") h then h.1 else host_field hs

-- The field is a host. So is the authority of a target that has one, and it isn't empty.
abbrev pub has_good_hosts : List ℕ → List ℕ → Bool
has_good_hosts target field = is_host field && (not (is_absolute target)
    || (is_host (authority_of target) && nat_lt 0 (length (before 58 58 (authority_of target)))))

-- the host of a request: that of its target if it has one, else that of its field
abbrev pub host_of : List ℕ → List ℕ → List ℕ
host_of target field = if is_absolute target then authority_of target else field

-- A digit or a dot. No name on a network has only these, since its last part is no number.
abbrev pub is_dotted_octet : ℕ → Bool
is_dotted_octet b = is_ascii_digit b || (b == 46)

-- A host is served if it is no name (nothing, an address in brackets, or digits and dots), or
-- `localhost`, or one of the names that are served, in any case. Its port is ignored.
abbrev pub is_served_host : List (List ℕ) → List ℕ → Bool
is_served_host names host = is_bracketed host || (let name = before 58 58 host in
    list_all is_dotted_octet name || (eq_ignore_case name (codes "localhost")
    || list_any (λ known. eq_ignore_case name known) names))
