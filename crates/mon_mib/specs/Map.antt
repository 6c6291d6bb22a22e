-- What contracts see of an agent's map.
use Rattle.std.specs.Prelude.{ℕ}
use Rattle.mon_mib.specs.declared.counters.Counters.{Counters}
use Rattle.mon_mib.specs.declared.mib.Mib.{Mib}
use Rattle.mon_mib.specs.declared.settings.Settings.{Settings}
use Rattle.mon_mib.specs.Held.{Held}
use Rattle.mon_mib.specs.Known.{Known, known_of}

-- what it serves as it was given at the start
abbrev pub map_settings : {D : Type 0} → Mib D → Settings
map_settings map = map.settings

-- what was counted
abbrev pub map_counters : {D : Type 0} → Mib D → Counters
map_counters map = map.counters

-- the device under it
abbrev pub map_device : {D : Type 0} → Mib D → D
map_device map = map.device

-- what it knows at a time, by what its device holds
abbrev pub known_by : {D : Type 0} → (D → Held) → Mib D → ℕ → Known
known_by held map moment = known_of map.settings map.counters (held map.device) moment

-- it, with other counters
abbrev pub with_counters : {D : Type 0} → Mib D → Counters → Mib D
with_counters map counters = record {
  settings = map.settings;
  counters = counters;
  device =
      map.device;
}
