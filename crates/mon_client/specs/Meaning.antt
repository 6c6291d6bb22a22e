-- What a text means as a value of a kind.
use Rattle.std.specs.Prelude.{◌≡◌, ◌⊎◌, ◌<◌, ◌^◌, ℕ, ℤ, pos, neg_ℤ, List, ◌++◌, codes, FitsSigned}
use Rattle.std.specs.Prelude.{Ok}
use Rattle.std.specs.Int.{w32}
use Rattle.std.specs.Net.Grammar.{IsDotted, IsNumber}
use Rattle.hex.specs.Hex.{decode_of}
use Rattle.mon_oid.specs.Oid.{IsOid, Spells}
use Rattle.mon_ber.specs.declared.value.Value.{Value}
use Rattle.mon_ber.specs.declared.value.Value.TheVariants as values
use Rattle.mon_app.specs.declared.fault.AppFault.{AppFault}
use Rattle.mon_app.specs.declared.fault.AppFault.TheVariants.{OutOfMemory, BadText}
use Rattle.mon_client.specs.declared.value.ValueKind.{ValueKind}
use Rattle.mon_client.specs.declared.value.ValueKind.TheVariants as kinds

-- the word for a kind
abbrev pub word_of : ValueKind → List ℕ
word_of kinds.Integer = codes "integer"
word_of kinds.String = codes "string"
word_of kinds.Hex = codes "hex"
word_of kinds.Oid = codes "oid"
word_of kinds.Ip = codes "ip"
word_of kinds.Counter32 = codes "counter32"
word_of kinds.Gauge32 = codes "gauge32"
word_of kinds.TimeTicks = codes "timeticks"
word_of kinds.Counter64 = codes "counter64"

-- decimal digits, at least one, for a number of k bits; leading zeros are allowed
abbrev pub IsUnsigned : ℕ → List ℕ → ℕ → Type 0
IsUnsigned k text n = IsNumber 10 text n × (n < 2 ^ k)

-- decimal digits, with or without a minus before them
abbrev pub IsSigned : List ℕ → ℤ → Type 0
IsSigned text z =
    ((n : ℕ) × IsNumber 10 text n × (z ≡ pos n))
    ⊎ ((digits : List ℕ) × (n : ℕ) × (text ≡ codes "-" ++ digits) × IsNumber 10 digits n
    × (z ≡ neg_ℤ (pos n)))

-- such a number from -2147483648 to 2147483647
abbrev pub IsInteger : List ℕ → ℤ → Type 0
IsInteger text z = IsSigned text z × FitsSigned w32 z

-- pairs of hex digits, in either case
abbrev pub IsHex : List ℕ → List ℕ → Type 0
IsHex text octets = decode_of text ≡ Ok octets

-- the numbers of an object identifier, with dots between them
abbrev pub IsDottedName : List ℕ → List ℕ → Type 0
IsDottedName text name = IsOid name × Spells text name

-- the text means this value, for a kind (RFC 2578 section 7.1)
abbrev pub MeansValue : ValueKind → List ℕ → Value → Type 0
MeansValue kinds.Integer text v = (z : ℤ) × IsInteger text z × (v ≡ values.Integer z)
MeansValue kinds.String text v = v ≡ values.Octets text
MeansValue kinds.Hex text v = (octets : List ℕ) × IsHex text octets × (v ≡ values.Octets octets)
MeansValue kinds.Oid text v = (name : List ℕ) × IsDottedName text name × (v ≡ values.Name name)
MeansValue kinds.Ip text v = (octets : List ℕ) × IsDotted text octets
    × (v ≡ values.IpAddress octets)
MeansValue kinds.Counter32 text v = (n : ℕ) × IsUnsigned 32 text n × (v ≡ values.Counter32 n)
MeansValue kinds.Gauge32 text v = (n : ℕ) × IsUnsigned 32 text n × (v ≡ values.Gauge32 n)
MeansValue kinds.TimeTicks text v = (n : ℕ) × IsUnsigned 32 text n × (v ≡ values.TimeTicks n)
MeansValue kinds.Counter64 text v = (n : ℕ) × IsUnsigned 64 text n × (v ≡ values.Counter64 n)

-- why nothing of this meaning is given: there is none, or memory ran out
abbrev pub IsFault : {A : Type 0} → (A → Type 0) → AppFault → Type 0
IsFault IsMeant OutOfMemory = Unit {0}
IsFault {A} IsMeant BadText = (a : A) → ¬ (IsMeant a)
IsFault IsMeant _ = ⊥
