-- What the value of a key must be, and what it is then read as.
use Rattle.std.specs.Prelude.{Bool, ◌&&◌, ◌||◌, ℕ, ℤ, ◌^◌, pos, negsuc, nat_le, nat_lt, ◌==◌, List}
use Rattle.std.specs.Prelude.{length, map, slice_index, Option, Some, None, Result, Ok, Err}
use Rattle.std.specs.Prelude.{option_map, option_and_then, if◌then◌else◌, [], ◌∷◌, ◌+◌}
use Rattle.std.specs.List.{slice_split, list_all}
use Rattle.std.specs.Str.{bytes_eq}
use Rattle.std.specs.Str.Parse.{digits_value}
use Rattle.hex.specs.Hex.{decode_of}
use Rattle.hex.specs.declared.error.FromHexError.{FromHexError}
use Rattle.toml.specs.Data.{Data, as_integer, as_str, Items, as_array, item, no_items}
use Rattle.mon_oid.specs.Oid.{dotted}
use Rattle.mon_vacm.specs.declared.model.SecurityModel.{SecurityModel}
use Rattle.mon_vacm.specs.declared.model.SecurityModel.TheVariants as model
use Rattle.mon_oid.specs.declared.fault.OidFault.{OidFault}
use Rattle.mon_oid.specs.declared.fault.OidFault.TheVariants as oid_fault
use Rattle.mon_udp.specs.declared.addr.Addr.{Addr}
use Rattle.mon_udp.specs.Addr.{addr_of}
use Rattle.mon_settings.specs.declared.key.Key.{Key}
use Rattle.mon_settings.specs.declared.fault.SettingsFault.{SettingsFault}
use Rattle.mon_settings.specs.declared.fault.SettingsFault.TheVariants as fault
use Rattle.mon_settings.specs.SettingsFault.{bad_value}

-- a number from least to most
abbrev pub bounded : ℕ → ℕ → ℤ → Option ℕ
bounded least most (pos n) = if nat_le least n && nat_le n most then Some n else None
bounded least most (negsuc n) = None

-- a whole number from least to most
abbrev pub number_in : ℕ → ℕ → Data → Option ℕ
number_in least most d = option_and_then (bounded least most) (as_integer d)

-- a value that is a number of these bounds, as a signed number
abbrev pub int_in : ℕ → ℕ → Data → Option ℤ
int_in least most d = option_map pos (number_in least most d)

-- least to most octets
abbrev pub sized : ℕ → ℕ → List ℕ → Option (List ℕ)
sized least most octets = if nat_le least (length octets) && nat_le (length octets) most
    then Some octets else None

-- a text of least to most octets
abbrev pub text_in : ℕ → ℕ → Data → Option (List ℕ)
text_in least most d = option_and_then (sized least most) (as_str d)

-- the octets of a hex text
abbrev pub ok_of : Result (List ℕ) FromHexError → Option (List ℕ)
ok_of (Ok octets) = Some octets
ok_of (Err e) = None

-- the octets of a hex text, least to most of them
abbrev pub hex_of : ℕ → ℕ → List ℕ → Option (List ℕ)
hex_of least most text = option_and_then (sized least most) (ok_of (decode_of text))

-- a hex text of least to most octets
abbrev pub hex_in : ℕ → ℕ → Data → Option (List ℕ)
hex_in least most d = option_and_then (hex_of least most) (as_str d)

-- the first is 0, 1 or 2, and the second is at most 39 under 0 and 1 (X.690 8.19.4)
abbrev pub is_rooted : List ℕ → Bool
is_rooted parts = nat_le (slice_index parts 0) 2 && (nat_le 2 (slice_index parts 0)
    || nat_le (slice_index parts 1) 39)

-- an object identifier: 2 to 128 sub-identifiers of 32 bits (RFC 2578 section 3.5)
abbrev pub is_oid : List ℕ → Bool
is_oid parts =
    (nat_le 2 (length parts) && nat_le (length parts) 128) &&
    (is_rooted parts && list_all (λ part. nat_lt part (2 ^ 32)) parts)

-- the numbers between the dots of a text
abbrev pub numbers_in : List ℕ → List ℕ
numbers_in text = map (digits_value 10) (slice_split (λ c. c == 46) text)

-- the object identifier whose dotted text this is
abbrev pub checked_oid : List ℕ → List ℕ → Option (List ℕ)
checked_oid text parts = if is_oid parts && bytes_eq text (dotted parts) then Some parts else None

-- the object identifier of a dotted text
abbrev pub oid_of : List ℕ → Option (List ℕ)
oid_of text = checked_oid text (numbers_in text)

-- a dotted object identifier
abbrev pub oid_in : Data → Option (List ℕ)
oid_in d = option_and_then oid_of (as_str d)

-- the fault of the settings for an identifier that is refused
abbrev pub refuse : Key → OidFault → SettingsFault
refuse k oid_fault.OutOfMemory = fault.OutOfMemory
refuse k oid_fault.TooShort = bad_value k
refuse k oid_fault.TooLong = bad_value k
refuse k oid_fault.BadFirst = bad_value k
refuse k oid_fault.BadText = bad_value k

-- an address
abbrev pub addr_in : Data → Option Addr
addr_in d = option_and_then addr_of (as_str d)

-- a security model by its number: 0 is any, 2 is SNMPv2c
abbrev pub model_numbered : ℕ → Option SecurityModel
model_numbered n = if n == 0 then Some model.Any else (if n == 2 then Some model.V2c else None)

-- the security model of a number
abbrev pub model_of : ℤ → Option SecurityModel
model_of (pos n) = model_numbered n
model_of (negsuc n) = None

-- a security model
abbrev pub model_in : Data → Option SecurityModel
model_in d = option_and_then model_of (as_integer d)

-- a number of up to 63 bits
abbrev pub long_in : Data → Option ℕ
long_in d = number_in 0 9223372036854775807 d

-- how many items there are
abbrev pub count : Items → ℕ
count no_items = 0
count (item d ds) = 1 + count ds

-- least to most items
abbrev pub between : ℕ → ℕ → Items → Option Items
between least most ds = if nat_le least (count ds) && nat_le (count ds) most then Some ds else None

-- a list of least to most items
abbrev pub list_between : ℕ → ℕ → Data → Option Items
list_between least most d = option_and_then (between least most) (as_array d)

-- a list of at most 256 entries
abbrev pub list_in : Data → Option Items
list_in d = list_between 0 256 d

-- texts of at most 4095 octets
abbrev pub texts_of : Items → Option (List (List ℕ))
texts_of no_items = Some []
texts_of (item d ds) = option_and_then (λ text. option_map (λ rest. text ∷ rest) (texts_of ds))
    (text_in 0 4095 d)

-- a list of at most 256 such texts
abbrev pub texts_in : Data → Option (List (List ℕ))
texts_in d = option_and_then texts_of (list_in d)
