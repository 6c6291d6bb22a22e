-- What a client reads of the octets that come: heads of interim responses, and the head of the
-- response.
use Rattle.std.specs.Prelude.{◌≡◌, ◌≤◌, ◌<◌, ◌+◌, ◌⊎◌, ℕ, false, List, [], Option, Some, None}
use Rattle.std.specs.Prelude.{Result, Ok, Err, length, take, drop, ◌==◌, nat_lt, if◌then◌else◌}
use Rattle.httparse.specs.declared.Error.{Error}
use Rattle.httparse.specs.declared.Status.{Status}
use Rattle.httparse.specs.declared.Status.TheVariants.{Complete, Partial}
use Rattle.httparse.specs.declared.spans.ResponseSpans.{ResponseSpans}
use Rattle.httparse.specs.Grammar.{ResponseHead, ReadsResponse, status_code}
use Rattle.mon_http_client.specs.declared.response.Progress.{Progress}
use Rattle.mon_http_client.specs.declared.response.Progress.TheVariants.{More, Response, Refused}
use Rattle.mon_http_client.specs.declared.response.Head.{Head}
use Rattle.mon_http_client.specs.declared.response.Head.TheVariants.{Interim, Final, Bad}
use Rattle.mon_http_client.specs.Front.{head_length}

-- the most octets of heads that are looked at
abbrev pub most_octets : ℕ
most_octets = 8192

-- the most field lines of a head
abbrev pub most_fields : ℕ
most_fields = 32

-- the head is one of the grammar (RFC 9112, sections 4 and 5) with at most 32 fields, and has this
-- status
abbrev pub HasStatus : List ℕ → ℕ → Type 0
HasStatus head status =
    (h : ResponseHead) × ReadsResponse head h [] × (length h.fields ≤ most_fields)
    × (status ≡ status_code h)

-- the head is no response: it is none of the grammar, has more fields, or a status that none has
-- (RFC 9110, section 15)
abbrev pub IsBad : List ℕ → Type 0
IsBad head = (status : ℕ) → HasStatus head status → (status < 100) ⊎ (599 < status)

-- the head is that of an interim response (RFC 9110, section 15.2)
abbrev pub IsInterim : List ℕ → Type 0
IsInterim head = (status : ℕ) × HasStatus head status × (100 ≤ status) × (status < 200)

-- the head is that of a response, which is final, and has this status (RFC 9110, section 15)
abbrev pub IsFinal : List ℕ → ℕ → Type 0
IsFinal head status = HasStatus head status × (200 ≤ status) × (status ≤ 599)

-- what a head is
abbrev pub IsHead : List ℕ → Head → Type 0
IsHead head Interim = IsInterim head
IsHead head (Final status) = IsFinal head status
IsHead head Bad = IsBad head

-- What octets come to, before which `past` octets of interim responses came. They are all that
-- came, or the first of it that are looked at.
pub data ReadsFrom : ℕ → List ℕ → Progress → Type 0 where
  waits : (past : ℕ) (octets : List ℕ) → head_length false octets ≡ None
      → past + length octets < most_octets
      → ReadsFrom past octets More
  overflows : (past : ℕ) (octets : List ℕ) → head_length false octets ≡ None
      → most_octets ≤ past + length octets
      → ReadsFrom past octets Refused
  fails : (past : ℕ) (octets : List ℕ) (n : ℕ) → head_length false octets ≡ Some n
      → IsBad (take n octets)
      → ReadsFrom past octets Refused
  ends : (past : ℕ) (octets : List ℕ) (n status : ℕ) → head_length false octets ≡ Some n
      → IsFinal (take n octets) status → ReadsFrom past octets (Response status (past + n))
  goes_on : (past : ℕ) (octets : List ℕ) (n : ℕ) (p : Progress) → head_length false octets ≡ Some n
      → IsInterim (take n octets) → ReadsFrom (past + n) (drop n octets) p → ReadsFrom past octets p

-- what all octets that came come to
abbrev pub IsProgress : List ℕ → Progress → Type 0
IsProgress octets p = ReadsFrom 0 (take most_octets octets) p

-- what was read, if it is the whole of `len` octets
abbrev pub whole_of : Result (Status ResponseSpans) Error → ℕ → Option ℕ
whole_of (Ok (Complete found)) len = if found.len == len then Some found.code else None
whole_of (Ok Partial) len = None
whole_of (Err fault) len = None

-- what a status says of a head, if it has one
abbrev pub head_of : Option ℕ → Head
head_of None = Bad
head_of (Some status) =
    if nat_lt status 100 then Bad else if nat_lt status 200 then Interim else if nat_lt 599 status
    then Bad else Final status
