-- Resolving names as a function, and which fault of a name comes first. That the function is what
-- StationAccepted.Resolves says is a law.
use Rattle.std.specs.Prelude.{Bool, true, ◌&&◌, ◌||◌, ◌==◌, ◌^◌, nat_lt, List, [], ◌∷◌, ◌++◌, map}
use Rattle.std.specs.Prelude.{slice_index, ℕ, Option, Some, None, option_and_then, Result, Ok, Err}
use Rattle.std.specs.Prelude.{if◌then◌else◌}
use Rattle.std.specs.Char.{is_ascii_alphabetic}
use Rattle.std.specs.List.{list_all, slice_split}
use Rattle.std.specs.Option.{option_or}
use Rattle.std.specs.Str.{bytes_eq}
use Rattle.std.specs.Str.Parse.{digits_value}
use Rattle.mon_oid.specs.Steps.{◌>>=◌}
use Rattle.mon_smi.specs.Nearest.{dotted_after}
use Rattle.mon_smi.specs.Parents.{numbers_of}
use Rattle.mon_smi.specs.Words.{is_part}
use Rattle.mon_smi.specs.declared.definition.Definition.{Definition}
use Rattle.mon_smi.specs.declared.fault.NamesFault.{NamesFault}
use Rattle.mon_smi.specs.declared.fault.NamesFault.TheVariants as names
use Rattle.toml.specs.Data.{Data, Members, get_member, as_str}
use Rattle.mon_settings.specs.Place.{at}
use Rattle.mon_settings.specs.declared.key.Key.{Key}
use Rattle.mon_settings.specs.declared.fault.SettingsFault.{SettingsFault}
use Rattle.mon_settings.specs.declared.fault.SettingsFault.TheVariants as fault
use Rattle.mon_settings.specs.Key.{key_name}
use Rattle.mon_settings.specs.Keys.{or_bad, needed_at}
use Rattle.mon_settings.specs.Leaf.{is_oid, oid_of}

-- letters, digits, underscores, and hyphens that one of these follows
abbrev pub all_go_on : List ℕ → Bool
all_go_on [] = true
all_go_on (b ∷ bs) = (is_part b || (b == 45 && is_part (slice_index bs 0))) && all_go_on bs

-- a letter, and then those
abbrev pub is_word : List ℕ → Bool
is_word w = is_ascii_alphabetic (slice_index w 0) && all_go_on w

-- the text is this word with these numbers after dots
abbrev pub is_named : List ℕ → List ℕ → List ℕ → Bool
is_named text w rest = is_word w && (list_all (λ n. nat_lt n (2 ^ 32)) rest
    && bytes_eq text (w ++ dotted_after rest))

-- the word and the numbers, where the text is they
abbrev pub checked_name : List ℕ → List ℕ → List ℕ → Option (List ℕ × List ℕ)
checked_name text w rest = if is_named text w rest then Some (w, rest) else None

-- the word and the numbers of a text in these parts
abbrev pub name_in_parts : List ℕ → List (List ℕ) → Option (List ℕ × List ℕ)
name_in_parts text [] = None
name_in_parts text (w ∷ parts) = checked_name text w (map (digits_value 10) parts)

-- the word of a text and the numbers after its dots
abbrev pub name_of_text : List ℕ → Option (List ℕ × List ℕ)
name_of_text text = name_in_parts text (slice_split (λ c. c == 46) text)

-- the numbers, where they are an identifier
abbrev pub only_oid : List ℕ → Option (List ℕ)
only_oid q = if is_oid q then Some q else None

-- the identifier of a word with numbers after it
abbrev pub oid_of_name : List Definition → List ℕ × List ℕ → Option (List ℕ)
oid_of_name defs name = option_and_then (λ known. only_oid (known ++ name.1))
    (numbers_of defs name.0)

-- what a text resolves to: the identifier that it spells, or that of a name
unfoldable pub resolution : List Definition → List ℕ → Option (List ℕ)
resolution defs text = option_or (oid_of text) (option_and_then (oid_of_name defs)
    (name_of_text text))

-- what the text at a key resolves to, or that the object is unknown
abbrev pub or_unknown : {A : Type 0} → Key → Option A → Result A SettingsFault
or_unknown k None = Err (fault.UnknownObject (at k))
or_unknown k (Some a) = Ok a

-- what a name at a key that does not resolve is to the settings
abbrev pub unresolved : Key → NamesFault → SettingsFault
unresolved k names.OutOfMemory = fault.OutOfMemory
unresolved k (names.Duplicate clash) = fault.UnknownObject (at k)
unresolved k (names.Formless form) = fault.UnknownObject (at k)
unresolved k names.Unknown = fault.UnknownObject (at k)
unresolved k names.Cycle = fault.UnknownObject (at k)
unresolved k names.TooDeep = fault.UnknownObject (at k)
unresolved k names.BadIdentifier = fault.UnknownObject (at k)

-- the identifier that a value names
unfoldable pub name_in : (List ℕ → Option (List ℕ)) → Key → Data → Result (List ℕ) SettingsFault
name_in find k d = or_bad k (as_str d) >>= (λ text. or_unknown k (find text))

-- the identifier that a key names
unfoldable pub name_at : (List ℕ → Option (List ℕ)) → Key → Members → Result (List ℕ) SettingsFault
name_at find k t = needed_at k as_str t >>= (λ text. or_unknown k (find text))

-- the identifier that a value names, or nothing if there is no value
unfoldable pub name_in_some : (List ℕ → Option (List ℕ)) → Key → Option Data
    → Result (Option (List ℕ)) SettingsFault
name_in_some find k None = Ok None
name_in_some find k (Some d) = name_in find k d >>= (λ q. Ok (Some q))

-- the identifier that a key names, or nothing where the key is left out
abbrev pub name_or_none : (List ℕ → Option (List ℕ)) → Key → Members
    → Result (Option (List ℕ)) SettingsFault
name_or_none find k t = name_in_some find k (get_member (key_name k) t)
