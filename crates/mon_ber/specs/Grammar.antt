-- Which octets spell a value: a tag, a length and contents (X.690 8.1, RFC 3417 section 8).
use Rattle.std.specs.Prelude.{◌≡◌, ℕ, ◌+◌, ◌<◌, ◌≤◌, ◌^◌, ◌⊎◌, ◌==◌, if◌then◌else◌, pos, List, []}
use Rattle.std.specs.Prelude.{◌∷◌, ◌++◌, length, Option, Some, None, FitsSigned}
use Rattle.std.specs.Int.{w32}
use Rattle.mon_ber.specs.declared.tag.Tag.{Tag}
use Rattle.mon_ber.specs.declared.tag.Tag.TheVariants as tags
use Rattle.mon_ber.specs.declared.value.Value.{Value}
use Rattle.mon_ber.specs.declared.value.Value.TheVariants.{
  Integer,
  Octets,
  Null,
  Name,
  IpAddress,
  Counter32,
  Gauge32,
  TimeTicks,
  Opaque,
  Counter64,
  NoSuchObject,
  NoSuchInstance,
  EndOfMibView,
}
use Rattle.mon_ber.specs.Numbers.{big_endian, IsNumber, IsName}

-- the octet of a tag (RFC 2578 section 7.1; of the exceptions RFC 3416 section 3)
abbrev pub octet_of : Tag → ℕ
octet_of tags.Integer = 0x02
octet_of tags.OctetString = 0x04
octet_of tags.Null = 0x05
octet_of tags.ObjectIdentifier = 0x06
octet_of tags.IpAddress = 0x40
octet_of tags.Counter32 = 0x41
octet_of tags.Gauge32 = 0x42
octet_of tags.TimeTicks = 0x43
octet_of tags.Opaque = 0x44
octet_of tags.Counter64 = 0x46
octet_of tags.NoSuchObject = 0x80
octet_of tags.NoSuchInstance = 0x81
octet_of tags.EndOfMibView = 0x82

-- the tag of an octet, if it is one of a value
abbrev pub kind_of : ℕ → Option Tag
kind_of octet =
    if octet == 0x02 then Some tags.Integer else
    (if octet == 0x04 then Some tags.OctetString else
    (if octet == 0x05 then Some tags.Null else
    (if octet == 0x06 then Some tags.ObjectIdentifier else
    (if octet == 0x40 then Some tags.IpAddress else
    (if octet == 0x41 then Some tags.Counter32 else
    (if octet == 0x42 then Some tags.Gauge32 else
    (if octet == 0x43 then Some tags.TimeTicks else
    (if octet == 0x44 then Some tags.Opaque else
    (if octet == 0x46 then Some tags.Counter64 else
    (if octet == 0x80 then Some tags.NoSuchObject else
    (if octet == 0x81 then Some tags.NoSuchInstance else
    (if octet == 0x82 then Some tags.EndOfMibView else None))))))))))))

-- the tag of a value
abbrev pub tag_of : Value → Tag
tag_of (Integer z) = tags.Integer
tag_of (Octets o) = tags.OctetString
tag_of Null = tags.Null
tag_of (Name o) = tags.ObjectIdentifier
tag_of (IpAddress a) = tags.IpAddress
tag_of (Counter32 n) = tags.Counter32
tag_of (Gauge32 n) = tags.Gauge32
tag_of (TimeTicks n) = tags.TimeTicks
tag_of (Opaque o) = tags.Opaque
tag_of (Counter64 n) = tags.Counter64
tag_of NoSuchObject = tags.NoSuchObject
tag_of NoSuchInstance = tags.NoSuchInstance
tag_of EndOfMibView = tags.EndOfMibView

-- the contents spell the value, which is in the range of its type
abbrev pub IsContents : List ℕ → Value → Type 0
IsContents bytes (Integer z) = IsNumber bytes z × FitsSigned w32 z
IsContents bytes (Octets o) = bytes ≡ o
IsContents bytes Null = bytes ≡ []
IsContents bytes (Name o) = IsName bytes o
IsContents bytes (IpAddress a) = (bytes ≡ a) × (length a ≡ 4)
IsContents bytes (Counter32 n) = IsNumber bytes (pos n) × (n < 2 ^ 32)
IsContents bytes (Gauge32 n) = IsNumber bytes (pos n) × (n < 2 ^ 32)
IsContents bytes (TimeTicks n) = IsNumber bytes (pos n) × (n < 2 ^ 32)
IsContents bytes (Opaque o) = bytes ≡ o
IsContents bytes (Counter64 n) = IsNumber bytes (pos n) × (n < 2 ^ 64)
IsContents bytes NoSuchObject = bytes ≡ []
IsContents bytes NoSuchInstance = bytes ≡ []
IsContents bytes EndOfMibView = bytes ≡ []

-- a length is one octet below 128, or 1 to 4 octets after one that says how many; leading zeros are
-- allowed (X.690 8.1.3)
abbrev pub IsLength : List ℕ → ℕ → Type 0
IsLength [] n = ⊥
IsLength (b ∷ bs) n = ((b < 128) × (bs ≡ []) × (n ≡ b))
    ⊎ ((b ≡ 128 + length bs) × (1 ≤ length bs) × (length bs ≤ 4) × (n ≡ big_endian bs))

-- these octets are an element: a tag, the length of the contents in one of its forms, and the
-- contents (X.690 8.1)
pub record IsElement (tag : ℕ) (contents bytes : List ℕ) : Type 0 where
  pub len : List ℕ
  pub spelled : IsLength len (length contents)
  pub whole : bytes ≡ tag ∷ len ++ contents

-- these octets, all of them, spell the value
pub record Spells (bytes : List ℕ) (v : Value) : Type 0 where
  pub contents : List ℕ
  pub element : IsElement (octet_of (tag_of v)) contents bytes
  pub value : IsContents contents v
