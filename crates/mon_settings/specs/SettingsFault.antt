-- The faults of settings.
use Rattle.std.specs.Prelude.{ℕ, List, codes}
use Rattle.mon_settings.specs.declared.fault.SettingsFault.{SettingsFault}
use Rattle.mon_settings.specs.declared.key.Key.{Key}
use Rattle.mon_settings.specs.declared.place.PathPart.{PathPart}
use Rattle.mon_settings.specs.Place.{place_within, at}
use Rattle.mon_settings.specs.declared.fault.SettingsFault.TheVariants.{OutOfMemory, NotToml}
use Rattle.mon_settings.specs.declared.fault.SettingsFault.TheVariants.{Missing, BadValue}
use Rattle.mon_settings.specs.declared.fault.SettingsFault.TheVariants.{UnknownKey, UnknownObject}

-- the number of a fault
abbrev pub number_of : SettingsFault → ℕ
number_of OutOfMemory = 1
number_of (NotToml from) = 2
number_of (Missing p) = 3
number_of (BadValue p) = 4
number_of (UnknownKey p) = 5
number_of (UnknownObject p) = 6

-- the name of a fault on a printed line
abbrev pub name_of : SettingsFault → List ℕ
name_of OutOfMemory = codes "OutOfMemory"
name_of (NotToml from) = codes "NotToml"
name_of (Missing p) = codes "Missing"
name_of (BadValue p) = codes "BadValue"
name_of (UnknownKey p) = codes "UnknownKey"
name_of (UnknownObject p) = codes "UnknownObject"

-- a key of the table that is read is missing
abbrev pub missing_key : Key → SettingsFault
missing_key k = Missing (at k)

-- the value at a key of the table that is read is bad
abbrev pub bad_value : Key → SettingsFault
bad_value k = BadValue (at k)

-- a fault of a table, as it is called from around the table, from where this step leads to it
abbrev pub fault_within : PathPart → SettingsFault → SettingsFault
fault_within s OutOfMemory = OutOfMemory
fault_within s (NotToml from) = NotToml from
fault_within s (Missing p) = Missing (place_within s p)
fault_within s (BadValue p) = BadValue (place_within s p)
fault_within s (UnknownKey p) = UnknownKey (place_within s p)
fault_within s (UnknownObject p) = UnknownObject (place_within s p)

-- what a tree can be refused for as the settings of an agent: neither as a text that is not TOML,
-- nor because memory ran out, nor for the name of an object
abbrev pub IsOfTree : SettingsFault → Type 0
IsOfTree OutOfMemory = ⊥
IsOfTree (NotToml from) = ⊥
IsOfTree (Missing p) = Unit {0}
IsOfTree (BadValue p) = Unit {0}
IsOfTree (UnknownKey p) = Unit {0}
IsOfTree (UnknownObject p) = ⊥

-- what a tree can be refused for as the settings of a station: neither as a text that is not TOML,
-- nor because memory ran out
abbrev pub IsOfStationTree : SettingsFault → Type 0
IsOfStationTree OutOfMemory = ⊥
IsOfStationTree (NotToml from) = ⊥
IsOfStationTree (Missing p) = Unit {0}
IsOfStationTree (BadValue p) = Unit {0}
IsOfStationTree (UnknownKey p) = Unit {0}
IsOfStationTree (UnknownObject p) = Unit {0}
