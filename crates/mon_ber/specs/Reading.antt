-- Reading from left to right, with the first fault that is met.
use Rattle.std.specs.Prelude.{◌≡◌, ℕ, zero, suc, ◌+◌, ◌-◌, ◌*◌, ◌^◌, ℤ, pos, negsuc, List, [], ◌∷◌}
use Rattle.std.specs.Prelude.{length, take, drop, slice_index, Some, None, Result, Ok, Err, nat_lt}
use Rattle.std.specs.Prelude.{◌==◌, if◌then◌else◌, ◌||◌}
use Rattle.mon_oid.specs.Steps.{◌>>=◌}
use Rattle.mon_ber.specs.declared.fault.BerFault.{BerFault}
use Rattle.mon_ber.specs.declared.fault.BerFault.TheVariants.{OutOfMemory, Truncated, BadTag}
use Rattle.mon_ber.specs.declared.fault.BerFault.TheVariants.{BadLength, OutOfRange, BadOid}
use Rattle.mon_ber.specs.declared.tag.Tag.{Tag}
use Rattle.mon_ber.specs.declared.tag.Tag.TheVariants as tags
use Rattle.mon_ber.specs.declared.value.Value.{Value}
use Rattle.mon_ber.specs.declared.value.Value.TheVariants.{
  Integer,
  Octets,
  Null,
  Name,
  IpAddress,
  Counter32,
  Gauge32,
  TimeTicks,
  Opaque,
  Counter64,
  NoSuchObject,
  NoSuchInstance,
  EndOfMibView,
}
use Rattle.mon_ber.specs.Numbers.{big_endian}
use Rattle.mon_ber.specs.Grammar.{kind_of}

-- a call that failed so failed as reading does, unless memory ran out.
abbrev pub Fails : {Y : Type 0} → BerFault → Result Y BerFault → Type 0
Fails OutOfMemory read = Unit {0}
Fails Truncated read = read ≡ Err Truncated
Fails BadTag read = read ≡ Err BadTag
Fails BadLength read = read ≡ Err BadLength
Fails OutOfRange read = read ≡ Err OutOfRange
Fails BadOid read = read ≡ Err BadOid

-- what a call returned, seen by view, is what reading gives, unless memory ran out.
abbrev pub Gives : {X Y : Type 0} → (X → Y) → Result X BerFault → Result Y BerFault → Type 0
Gives view (Ok x) read = read ≡ Ok (view x)
Gives view (Err e) read = Fails e read

-- a length, and what follows it
unfoldable pub length_at : List ℕ → Result (ℕ × List ℕ) BerFault
length_at [] = Err Truncated
length_at (b ∷ bs) =
    if nat_lt b 128 then Ok (b, bs) else
    (if (b == 128) || nat_lt 132 b then Err BadLength else
    (if nat_lt (length bs) (b - 128) then Err Truncated else
    Ok (big_endian (take (b - 128) bs), drop (b - 128) bs)))

-- after a tag: the contents, and what follows the element
unfoldable pub contents_at : List ℕ → Result (List ℕ × List ℕ) BerFault
contents_at bytes = do
  n ← length_at bytes
  if nat_lt (length n.1) n.0 then Err Truncated else Ok (take n.0 n.1, drop n.0 n.1)

-- an element with this tag: its contents, and what follows it
unfoldable pub element_at : ℕ → List ℕ → Result (List ℕ × List ℕ) BerFault
element_at tag [] = Err Truncated
element_at tag (b ∷ bs) = if b == tag then contents_at bs else Err BadTag

-- the tag of a value, and what follows it
unfoldable pub tag_at : List ℕ → Result (Tag × List ℕ) BerFault
tag_at [] = Err Truncated
tag_at (b ∷ bs) = elim (kind_of b) [ Some tag ↦ Ok (tag, bs) | None ↦ Err BadTag ]

-- ---- contents

-- a number of 1 to 9 octets in two's complement
unfoldable pub number_of : List ℕ → Result ℤ BerFault
number_of [] = Err BadLength
number_of (b ∷ bs) =
    if nat_lt 8 (length bs) then Err BadLength else
    (if nat_lt b 128 then Ok (pos (big_endian (b ∷ bs))) else
    Ok (negsuc (256 ^ length (b ∷ bs) - 1 - big_endian (b ∷ bs))))

-- the number, if it fits 32 bits with a sign
abbrev pub in_i32 : ℤ → Result ℤ BerFault
in_i32 (pos n) = if nat_lt n (2 ^ 31) then Ok (pos n) else Err OutOfRange
in_i32 (negsuc n) = if nat_lt n (2 ^ 31) then Ok (negsuc n) else Err OutOfRange

-- the number, if it is from 0 to below the limit
abbrev pub below : ℕ → ℤ → Result ℕ BerFault
below limit (pos n) = if nat_lt n limit then Ok n else Err OutOfRange
below limit (negsuc n) = Err OutOfRange

-- an INTEGER of 32 bits
unfoldable pub integer_of : List ℕ → Result ℤ BerFault
integer_of contents = do
  z ← number_of contents
  in_i32 z

-- a number from 0 to below the limit
unfoldable pub unsigned_of : ℕ → List ℕ → Result ℕ BerFault
unsigned_of limit contents = do
  z ← number_of contents
  below limit z

-- 4 octets
unfoldable pub address_of : List ℕ → Result (List ℕ) BerFault
address_of contents = if length contents == 4 then Ok contents else Err BadLength

-- no contents
unfoldable pub nothing_of : {A : Type 0} → A → List ℕ → Result A BerFault
nothing_of x [] = Ok x
nothing_of x (b ∷ bs) = Err BadLength

-- the number in base 128 that goes on with these octets, below 2 ^ 32 + 80, and what follows it
abbrev pub digits_at : ℕ → List ℕ → Result (ℕ × List ℕ) BerFault
digits_at high [] = Err BadOid
digits_at high (b ∷ bs) =
    if nat_lt b 128 then (if nat_lt (128 * high + b) (2 ^ 32 + 80) then Ok (128 * high + b, bs)
    else Err BadOid) else
    (if nat_lt (128 * high + (b - 128)) (2 ^ 32 + 80) then digits_at (128 * high + (b - 128)) bs
    else Err BadOid)

-- a number in base 128 that does not begin with a leading zero, and what follows it
unfoldable pub subidentifier_at : List ℕ → Result (ℕ × List ℕ) BerFault
subidentifier_at bytes = if slice_index bytes 0 == 128 then Err BadOid else digits_at 0 bytes

-- all of the octets: at most this many sub-identifiers
unfoldable pub subidentifiers_of : ℕ → List ℕ → Result (List ℕ) BerFault
subidentifiers_of room [] = Ok []
subidentifiers_of zero (b ∷ bs) = Err BadOid
subidentifiers_of (suc room) (b ∷ bs) = do
  n ← subidentifier_at (b ∷ bs)
  if nat_lt n.0 (2 ^ 32) then (subidentifiers_of room n.1 >>= λ ns. Ok (n.0 ∷ ns)) else Err BadOid

-- the first two sub-identifiers, from the number that means them
abbrev pub first_two : ℕ → Result (ℕ × ℕ) BerFault
first_two n =
    if nat_lt n 40 then Ok (0, n) else
    (if nat_lt n 80 then Ok (1, n - 40) else
    (if nat_lt (n - 80) (2 ^ 32) then Ok (2, n - 80) else Err BadOid))

-- an identifier of 2 to 128 sub-identifiers
unfoldable pub name_of : List ℕ → Result (List ℕ) BerFault
name_of contents = do
  n ← subidentifier_at contents
  two ← first_two n.0
  others ← subidentifiers_of 126 n.1
  Ok (two.0 ∷ two.1 ∷ others)

-- the value that contents after this tag spell
unfoldable pub value_of : Tag → List ℕ → Result Value BerFault
value_of tags.Integer contents = do
  z ← integer_of contents
  Ok (Integer z)
value_of tags.OctetString contents = Ok (Octets contents)
value_of tags.Null contents = nothing_of Null contents
value_of tags.ObjectIdentifier contents = do
  parts ← name_of contents
  Ok (Name parts)
value_of tags.IpAddress contents = do
  a ← address_of contents
  Ok (IpAddress a)
value_of tags.Counter32 contents = do
  n ← unsigned_of (2 ^ 32) contents
  Ok (Counter32 n)
value_of tags.Gauge32 contents = do
  n ← unsigned_of (2 ^ 32) contents
  Ok (Gauge32 n)
value_of tags.TimeTicks contents = do
  n ← unsigned_of (2 ^ 32) contents
  Ok (TimeTicks n)
value_of tags.Opaque contents = Ok (Opaque contents)
value_of tags.Counter64 contents = do
  n ← unsigned_of (2 ^ 64) contents
  Ok (Counter64 n)
value_of tags.NoSuchObject contents = nothing_of NoSuchObject contents
value_of tags.NoSuchInstance contents = nothing_of NoSuchInstance contents
value_of tags.EndOfMibView contents = nothing_of EndOfMibView contents

-- a value, and what follows it; the faults come in this order: empty, tag, length, octets left,
-- contents
unfoldable pub value_at : List ℕ → Result (Value × List ℕ) BerFault
value_at bytes = do
  tag ← tag_at bytes
  element ← contents_at tag.1
  v ← value_of tag.0 element.0
  Ok (v, element.1)

-- ---- values of one type

-- an INTEGER of 32 bits, and what follows it
unfoldable pub integer_at : List ℕ → Result (ℤ × List ℕ) BerFault
integer_at bytes = do
  element ← element_at 0x02 bytes
  z ← integer_of element.0
  Ok (z, element.1)

-- an OBJECT IDENTIFIER, and what follows it
unfoldable pub name_at : List ℕ → Result (List ℕ × List ℕ) BerFault
name_at bytes = do
  element ← element_at 0x06 bytes
  parts ← name_of element.0
  Ok (parts, element.1)
