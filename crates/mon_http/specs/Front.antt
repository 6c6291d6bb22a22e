-- Where the head of a request ends among the octets of a connection, and which version its request
-- line names.
use Rattle.std.specs.Prelude.{ℕ, ◌+◌, ◌-◌, Bool, ◌&&◌, ◌||◌, not, List, [], ◌∷◌, Option, Some, None}
use Rattle.std.specs.Prelude.{option_map, length, take, drop, codes, ◌==◌, bytes_eq, slice_index}
use Rattle.std.specs.Prelude.{count_by, if◌then◌else◌}
use Rattle.std.specs.Char.{is_ascii_digit}
use Rattle.mon_http.specs.Route.{before}

-- CR or LF
abbrev pub is_line_end : ℕ → Bool
is_line_end octet = (octet == 10) || (octet == 13)

-- the octets after the empty lines before a request, which a server ignores (RFC 9112, section 2.2)
abbrev pub skip_line_ends : List ℕ → List ℕ
skip_line_ends [] = []
skip_line_ends (octet ∷ octets) = if is_line_end octet then skip_line_ends octets
    else octet ∷ octets

-- after this octet, the line has no octet but CR so far; it had none before if `blank`
abbrev pub blank_after : Bool → ℕ → Bool
blank_after blank octet = (octet == 10) || (blank && (octet == 13))

-- the number of octets up to the end of the first empty line (RFC 9112, section 2.1). A line ends
-- in LF, and is empty if it has no octet but CR. The octets go on with a line that has no octet but
-- CR so far if `blank`
abbrev pub head_length : Bool → List ℕ → Option ℕ
head_length blank [] = None
head_length blank (octet ∷ octets) =
    if (octet == 10) && blank then Some 1 else option_map (λ n. n + 1)
    (head_length (blank_after blank octet) octets)

-- the number of lines
abbrev pub line_count : List ℕ → ℕ
line_count octets = count_by (λ octet. octet == 10) octets

-- a space and a version (RFC 9112, section 2.3) that is neither HTTP/1.0 nor HTTP/1.1
abbrev pub is_other_version : List ℕ → Bool
is_other_version octets =
    (length octets == 9) && (bytes_eq (take 6 octets) (codes " HTTP/")
    && (is_ascii_digit (slice_index octets 6)
    && ((slice_index octets 7 == 46) && (is_ascii_digit (slice_index octets 8)
    && (not (bytes_eq octets (codes " HTTP/1.0")) && not (bytes_eq octets (codes " HTTP/1.1")))))))

-- the last nine octets of the request line, those up to the first CR or LF
abbrev pub end_of_line : List ℕ → List ℕ
end_of_line head = let line = before 13 10 head in drop (length line - 9) line

-- the request line ends in another version than those of HTTP/1
abbrev pub names_other_version : List ℕ → Bool
names_other_version head = is_other_version (end_of_line head)
