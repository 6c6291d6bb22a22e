-- Which key of a table is unknown.
use Rattle.std.specs.Prelude.{Bool, false, ℕ, zero, suc, List, Option, Some, None, option_and_then}
use Rattle.toml.specs.Data.{Data, Members, get_member, as_table, at}
use Rattle.mon_settings.specs.declared.grammar.SettingsKind.{SettingsKind}
use Rattle.mon_settings.specs.declared.grammar.SettingsKind.TheVariants as kind
use Rattle.mon_settings.specs.declared.place.Place.{Place}
use Rattle.mon_settings.specs.declared.place.Place.TheVariants as place
use Rattle.mon_settings.specs.declared.place.PathPart.{PathPart}
use Rattle.mon_settings.specs.declared.place.PathPart.TheVariants as step
use Rattle.mon_settings.specs.declared.key.Key.{Key}
use Rattle.mon_settings.specs.Grammar.{table_keys, top_keys}
use Rattle.mon_settings.specs.Key.{key_name}
use Rattle.mon_settings.specs.Keys.{first_unknown, is_one_of}

-- the entry of this number in a list, whose first one is 1
abbrev pub entry : ℕ → Data → Option Data
entry zero d = None
entry (suc n) d = at n d

-- the value to which a step leads
abbrev pub value_at : PathPart → Members → Option Data
value_at (step.Value k) t = get_member (key_name k) t
value_at (step.Entry k number) t = option_and_then (entry number) (get_member (key_name k) t)

-- the table to which a step leads
abbrev pub table_of : PathPart → Members → Option Members
table_of s t = option_and_then as_table (value_at s t)

-- the table at a place
abbrev pub table_at : Place → Members → Option Members
table_at place.Whole t = Some t
table_at (place.At last) t = table_of last t
table_at (place.In table last) t = option_and_then (table_of last) (table_of table t)
table_at (place.Inside first table last) t = option_and_then (table_of last)
    (option_and_then (table_of table) (table_of first t))

-- the keys of the table to which a step leads
abbrev pub step_keys : PathPart → List Key
step_keys (step.Value k) = table_keys k
step_keys (step.Entry k number) = table_keys k

-- the keys of the table at a place
abbrev pub known_keys : SettingsKind → Place → List Key
known_keys whose place.Whole = top_keys whose
known_keys whose (place.At last) = step_keys last
known_keys whose (place.In table last) = step_keys last
known_keys whose (place.Inside first table last) = step_keys last

-- the first key of the table at a place that its grammar does not know, and none if there is no
-- such table
abbrev pub unknown_at : SettingsKind → Place → Members → Option (List ℕ)
unknown_at whose p t = option_and_then (first_unknown (known_keys whose p)) (table_at p t)

-- an agent's settings for a station's, and the other way round
abbrev pub other_kind : SettingsKind → SettingsKind
other_kind kind.Agent = kind.Station
other_kind kind.Station = kind.Agent

-- whether the name, at this place, is a key of settings of the other kind: only of those at
-- the top
abbrev pub is_of_other : SettingsKind → Place → List ℕ → Bool
is_of_other whose place.Whole name = is_one_of (top_keys (other_kind whose)) name
is_of_other whose (place.At last) name = false
is_of_other whose (place.In table last) name = false
is_of_other whose (place.Inside first table last) name = false
