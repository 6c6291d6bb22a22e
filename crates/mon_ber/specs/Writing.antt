-- The spelling that is written: the one with the shortest lengths and numbers.
use Rattle.std.specs.Prelude.{◌≡◌, FitsSigned, ℕ, min, ◌+◌, ◌/◌, ◌%◌, ◌^◌, ◌<◌, ℤ, pos, negsuc}
use Rattle.std.specs.Prelude.{List, [], ◌∷◌, ◌++◌, length, nat_lt, if◌then◌else◌}
use Rattle.std.specs.Int.{w32, w128, cast_unsigned, bytes_high_first}
use Rattle.std.specs.List.{flat_map}
use Rattle.mon_ber.specs.declared.value.Value.{Value}
use Rattle.mon_ber.specs.declared.value.Value.TheVariants.{
  Integer,
  Octets,
  Null,
  Name,
  IpAddress,
  Counter32,
  Gauge32,
  TimeTicks,
  Opaque,
  Counter64,
  NoSuchObject,
  NoSuchInstance,
  EndOfMibView,
}
use Rattle.mon_oid.specs.Oid.{IsOid}
use Rattle.mon_ber.specs.Numbers.{encoded}
use Rattle.mon_ber.specs.Grammar.{octet_of, tag_of}

-- how many octets a number takes, and so the one below 0 that is as far from -1: one bit is the
-- sign's
abbrev pub octets_for : ℕ → ℕ
octets_for n =
    if nat_lt n (2 ^ 7) then 1 else
    (if nat_lt n (2 ^ 15) then 2 else
    (if nat_lt n (2 ^ 23) then 3 else
    (if nat_lt n (2 ^ 31) then 4 else
    (if nat_lt n (2 ^ 39) then 5 else
    (if nat_lt n (2 ^ 47) then 6 else
    (if nat_lt n (2 ^ 55) then 7 else
    (if nat_lt n (2 ^ 63) then 8 else 9)))))))

-- how many octets a number takes
abbrev pub width : ℤ → ℕ
width (pos n) = octets_for n
width (negsuc n) = octets_for n

-- the low octets of the number in two's complement, as many as it takes
unfoldable pub number_octets : ℤ → List ℕ
number_octets z = bytes_high_first (width z) (cast_unsigned w128 z)

-- one digit in base 128 that is not the last, where the number reaches it
abbrev pub digit : ℕ → ℕ → List ℕ
digit place n = if nat_lt n place then [] else (128 + n / place % 128) ∷ []

-- the number, below 2 ^ 35, in base 128
unfoldable pub base128 : ℕ → List ℕ
base128 n = digit (2 ^ 28) n ++ digit (2 ^ 21) n ++ digit (2 ^ 14) n ++ digit (2 ^ 7) n ++ n % 128
    ∷ []

-- an identifier's contents
abbrev pub name_octets : List ℕ → List ℕ
name_octets parts = flat_map base128 (encoded parts)

-- the contents that are written for a value
abbrev pub contents_of : Value → List ℕ
contents_of (Integer z) = number_octets z
contents_of (Octets o) = o
contents_of Null = []
contents_of (Name o) = name_octets o
contents_of (IpAddress a) = a
contents_of (Counter32 n) = number_octets (pos n)
contents_of (Gauge32 n) = number_octets (pos n)
contents_of (TimeTicks n) = number_octets (pos n)
contents_of (Opaque o) = o
contents_of (Counter64 n) = number_octets (pos n)
contents_of NoSuchObject = []
contents_of NoSuchInstance = []
contents_of EndOfMibView = []

-- how many octets follow the first of a length from 128 on
abbrev pub length_width : ℕ → ℕ
length_width n =
    if nat_lt n (2 ^ 8) then 1 else
    (if nat_lt n (2 ^ 16) then 2 else
    (if nat_lt n (2 ^ 24) then 3 else 4))

-- a length in its shortest form
unfoldable pub length_octets : ℕ → List ℕ
length_octets n = if nat_lt n 128 then n ∷ [] else (128 + length_width n)
    ∷ bytes_high_first (length_width n) n

-- a tag, the shortest length, and the contents
unfoldable pub element : ℕ → List ℕ → List ℕ
element tag contents = tag ∷ length_octets (length contents) ++ contents

-- the octets that are written for a value
unfoldable pub written : Value → List ℕ
written v = element (octet_of (tag_of v)) (contents_of v)

-- the length takes 4 octets at most
abbrev pub HasLength : Value → Type 0
HasLength v = length (contents_of v) < 2 ^ 32

-- how many octets an element with this many octets of contents takes
unfoldable pub size_for : ℕ → ℕ
size_for n = 1 + length (length_octets n) + n

-- a size, counted up to what no length says
abbrev pub size_counted : ℕ → ℕ
size_counted n = min n (2 ^ 32)

-- the value is in the range of its type
abbrev pub IsValid : Value → Type 0
IsValid (Integer z) = FitsSigned w32 z
IsValid (Octets o) = Unit {0}
IsValid Null = Unit {0}
IsValid (Name o) = IsOid o
IsValid (IpAddress a) = length a ≡ 4
IsValid (Counter32 n) = n < 2 ^ 32
IsValid (Gauge32 n) = n < 2 ^ 32
IsValid (TimeTicks n) = n < 2 ^ 32
IsValid (Opaque o) = Unit {0}
IsValid (Counter64 n) = n < 2 ^ 64
IsValid NoSuchObject = Unit {0}
IsValid NoSuchInstance = Unit {0}
IsValid EndOfMibView = Unit {0}
