-- What the keys of a table give, and which fault comes first.
use Rattle.std.specs.Prelude.{◌≡◌, ◌⊎◌, Bool, false, ◌||◌, ◌&&◌, ℕ, ℤ, pos, negsuc, nat_le, List}
use Rattle.std.specs.Prelude.{[], ◌∷◌, length, Option, Some, None, option_map, option_and_then}
use Rattle.std.specs.Prelude.{Result, Ok, Err, if◌then◌else◌}
use Rattle.std.specs.Str.{bytes_eq}
use Rattle.hex.specs.Hex.{decode_of}
use Rattle.hex.specs.declared.error.FromHexError.{FromHexError}
use Rattle.toml.specs.Data.{Data, Members, no_members, member, get_member, as_integer, as_str}
use Rattle.mon_labels.specs.declared.key.Key.{Key}
use Rattle.mon_labels.specs.declared.fault.Place.{Place}
use Rattle.mon_labels.specs.declared.fault.LabelsFault.{LabelsFault}
use Rattle.mon_labels.specs.declared.fault.LabelsFault.TheVariants as fault
use Rattle.mon_labels.specs.Key.{key_name}

-- what the value of a key gives, or that it is bad
abbrev pub or_bad : {A : Type 0} → Place → Key → Option A → Result A LabelsFault
or_bad p k None = Err (fault.BadValue p k)
or_bad p k (Some a) = Ok a

-- what the value of a key gives that must be there
abbrev pub needed : {A : Type 0} → Place → Key → (Data → Option A) → Option Data
    → Result A LabelsFault
needed p k f None = Err (fault.Missing p k)
needed p k f (Some d) = or_bad p k (f d)

-- what a key of a table gives that must be there
abbrev pub needed_at : {A : Type 0} → Place → Key → (Data → Option A) → Members
    → Result A LabelsFault
needed_at p k f t = needed p k f (get_member (key_name k) t)

-- what the value of a key gives, or nothing where it is left out
abbrev pub optional : {A : Type 0} → Place → Key → (Data → Option A) → Option Data
    → Result (Option A) LabelsFault
optional p k f None = Ok None
optional p k f (Some d) = or_bad p k (option_map Some (f d))

-- what a key of a table gives, or nothing where it is left out
abbrev pub optional_at : {A : Type 0} → Place → Key → (Data → Option A) → Members
    → Result (Option A) LabelsFault
optional_at p k f t = optional p k f (get_member (key_name k) t)

-- the name is that of one of the keys
abbrev pub is_one_of : List Key → List ℕ → Bool
is_one_of [] name = false
is_one_of (k ∷ ks) name = bytes_eq name (key_name k) || is_one_of ks name

-- the first key of a table that is none of these; a table has its keys in the order of their octets
abbrev pub first_unknown : List Key → Members → Option (List ℕ)
first_unknown ks no_members = None
first_unknown ks (member name d ms) = if is_one_of ks name then first_unknown ks ms else Some name

-- nothing, where no key is unknown
abbrev pub or_unknown_key : Place → Option (List ℕ) → Result Unit LabelsFault
or_unknown_key p None = Ok tt
or_unknown_key p (Some name) = Err (fault.UnknownKey p)

-- no key but these is there
unfoldable pub only : Place → List Key → Members → Result Unit LabelsFault
only p ks t = or_unknown_key p (first_unknown ks t)

-- an ifIndex (RFC 2863, InterfaceIndex)
abbrev pub index_of : ℤ → Option ℕ
index_of (pos n) = if nat_le 1 n && nat_le n 2147483647 then Some n else None
index_of (negsuc n) = None

-- a speed in bits a second
abbrev pub speed_of : ℤ → Option ℕ
speed_of (pos n) = if nat_le 1 n then Some n else None
speed_of (negsuc n) = None

-- a value that is a speed
abbrev pub speed_in : Data → Option ℕ
speed_in d = option_and_then speed_of (as_integer d)

-- a value that is an ifIndex
abbrev pub index_in : Data → Option ℕ
index_in d = option_and_then index_of (as_integer d)

-- an engine id (RFC 3411 section 5, SnmpEngineID)
abbrev pub sized : List ℕ → Option (List ℕ)
sized octets = if nat_le 5 (length octets) && nat_le (length octets) 32 then Some octets else None

-- the octets of hex digits
abbrev pub ok_of : Result (List ℕ) FromHexError → Option (List ℕ)
ok_of (Ok octets) = Some octets
ok_of (Err e) = None

-- the engine id of a text in hex digits
abbrev pub engine_of : List ℕ → Option (List ℕ)
engine_of text = option_and_then sized (ok_of (decode_of text))

-- a value that is an engine id
abbrev pub engine_in : Data → Option (List ℕ)
engine_in d = option_and_then engine_of (as_str d)

-- the result is the expected one, memory aside
abbrev pub Reads : {T A : Type 0} → (T → A) → Result A LabelsFault → Result T LabelsFault → Type 0
Reads view expected (Ok t) = expected ≡ Ok (view t)
Reads view expected (Err e) = (e ≡ fault.OutOfMemory) ⊎ (expected ≡ Err e)
