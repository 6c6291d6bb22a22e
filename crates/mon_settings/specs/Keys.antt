-- Which fault of a key comes first.
use Rattle.std.specs.Prelude.{◌≡◌, ◌⊎◌, Bool, false, ◌||◌, ℕ, List, [], ◌∷◌, Option, Some, None}
use Rattle.std.specs.Prelude.{option_map, Result, Ok, Err, if◌then◌else◌}
use Rattle.std.specs.Str.{bytes_eq}
use Rattle.toml.specs.Data.{Data, Members, no_members, member, get_member}
use Rattle.mon_settings.specs.Place.{at}
use Rattle.mon_settings.specs.declared.key.Key.{Key}
use Rattle.mon_settings.specs.declared.fault.SettingsFault.{SettingsFault}
use Rattle.mon_settings.specs.declared.fault.SettingsFault.TheVariants as fault
use Rattle.mon_settings.specs.declared.place.Place.{Place}
use Rattle.mon_settings.specs.declared.place.Place.TheVariants as place
use Rattle.mon_settings.specs.declared.place.PathPart.{PathPart}
use Rattle.mon_settings.specs.Key.{key_name}
use Rattle.mon_settings.specs.SettingsFault.{fault_within, missing_key}

-- what is at a place, or that it is bad
abbrev pub or_bad_at : {A : Type 0} → Place → Option A → Result A SettingsFault
or_bad_at p None = Err (fault.BadValue p)
or_bad_at p (Some a) = Ok a

-- what the value of a key gives, or that it is bad
abbrev pub or_bad : {A : Type 0} → Key → Option A → Result A SettingsFault
or_bad k o = or_bad_at (at k) o

-- the value of a key that must be there
abbrev pub needed : {A : Type 0} → Key → (Data → Option A) → Option Data → Result A SettingsFault
needed k f None = Err (missing_key k)
needed k f (Some d) = or_bad k (f d)

-- what a key that must be there is read as
abbrev pub needed_at : {A : Type 0} → Key → (Data → Option A) → Members → Result A SettingsFault
needed_at k f t = needed k f (get_member (key_name k) t)

-- what a key gives that may be left out
abbrev pub or_default : {A : Type 0} → Key → A → (Data → Option A) → Option Data
    → Result A SettingsFault
or_default k a f None = Ok a
or_default k a f (Some d) = or_bad k (f d)

-- what a key gives, or a default where it is missing
abbrev pub default_at : {A : Type 0} → Key → A → (Data → Option A) → Members
    → Result A SettingsFault
default_at k a f t = or_default k a f (get_member (key_name k) t)

-- what a key gives, or nothing where it is missing
abbrev pub optional_at : {A : Type 0} → Key → (Data → Option A) → Members
    → Result (Option A) SettingsFault
optional_at k f t = default_at k None (λ d. option_map Some (f d)) t

-- the name is that of one of the keys
abbrev pub is_one_of : List Key → List ℕ → Bool
is_one_of [] name = false
is_one_of (k ∷ ks) name = bytes_eq name (key_name k) || is_one_of ks name

-- the first key of a table that is none of these; a table has its keys in the order of their octets
abbrev pub first_unknown : List Key → Members → Option (List ℕ)
first_unknown ks no_members = None
first_unknown ks (member name d ms) = if is_one_of ks name then first_unknown ks ms else Some name

-- nothing, where no key is unknown
abbrev pub or_unknown_key : Option (List ℕ) → Result Unit SettingsFault
or_unknown_key None = Ok tt
or_unknown_key (Some name) = Err (fault.UnknownKey place.Whole)

-- no key but these is there
unfoldable pub only : List Key → Members → Result Unit SettingsFault
only ks t = or_unknown_key (first_unknown ks t)

-- what a table gives, with its faults as they are called from around the table
abbrev pub within : {A : Type 0} → PathPart → Result A SettingsFault → Result A SettingsFault
within s (Ok a) = Ok a
within s (Err e) = Err (fault_within s e)

-- the result is the expected one, memory aside
abbrev pub Reads : {T A : Type 0} → (T → A) → Result A SettingsFault → Result T SettingsFault
    → Type 0
Reads view expected (Ok t) = expected ≡ Ok (view t)
Reads view expected (Err e) = (e ≡ fault.OutOfMemory) ⊎ (expected ≡ Err e)
