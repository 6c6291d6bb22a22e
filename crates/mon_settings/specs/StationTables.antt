-- Which fault of the tables of a station comes first.
use Rattle.std.specs.Prelude.{ℕ, List, Option, Result, Ok, min}
use Rattle.mon_oid.specs.Steps.{◌>>=◌}
use Rattle.toml.specs.Data.{Members, as_integer}
use Rattle.mon_settings.specs.declared.key.Key.TheVariants as key
use Rattle.mon_settings.specs.declared.fault.SettingsFault.{SettingsFault}
use Rattle.mon_settings.specs.declared.sizes.Sizes.{Sizes}
use Rattle.mon_settings.specs.declared.station_tables.AlarmRow.{AlarmRow}
use Rattle.mon_settings.specs.declared.station_tables.ObjectRow.{ObjectRow}
use Rattle.mon_settings.specs.declared.station_tables.PeerRow.{PeerRow}
use Rattle.mon_settings.specs.declared.station_tables.TargetRow.{TargetRow}
use Rattle.mon_settings.specs.Grammar.{table_keys}
use Rattle.mon_settings.specs.Keys.{only, needed_at, default_at, optional_at}
use Rattle.mon_settings.specs.Leaf.{number_in, text_in, hex_in, addr_in}
use Rattle.mon_settings.specs.Lists.{rows_between}
use Rattle.mon_settings.specs.Resolving.{name_at, name_or_none}

-- an object: its window is the station's where it gives none, and its epoch the lesser of the
-- station's and its window
unfoldable pub object_of : (List ℕ → Option (List ℕ)) → Sizes → Members
    → Result ObjectRow SettingsFault
object_of find sizes t = do
  known ← only (table_keys key.Objects) t
  name ← name_at find key.Name t
  discontinuity ← name_or_none find key.Mark t
  window ← default_at key.Window sizes.window (number_in 1 64) t
  epoch ← default_at key.Epoch (min sizes.epoch window) (number_in 1 window) t
  Ok (record { name = name; discontinuity = discontinuity; window = window; epoch = epoch })

-- an agent that is polled, for 1 to 16 objects
unfoldable pub target_of : (List ℕ → Option (List ℕ)) → Sizes → Members
    → Result TargetRow SettingsFault
target_of find sizes t = do
  known ← only (table_keys key.Target) t
  address ← needed_at key.Address addr_in t
  community ← needed_at key.Community (text_in 1 512) t
  engine ← needed_at key.Engine (hex_in 5 32) t
  tries ← needed_at key.Tries (number_in 1 8) t
  label ← optional_at key.Label (text_in 1 64) t
  objects ← rows_between key.Objects 1 16 (object_of find sizes) t
  Ok (record {
    address = address;
    community = community;
    engine = engine;
    tries = tries;
    label =
        label;
    objects = objects;
  })

-- a peer
unfoldable pub peer_of : Members → Result PeerRow SettingsFault
peer_of t = do
  known ← only (table_keys key.Peer) t
  station ← needed_at key.Station (number_in 1 4294967295) t
  address ← needed_at key.Address addr_in t
  Ok (record { station = station; address = address })

-- an alarm on an object at an engine
unfoldable pub alarm_of : (List ℕ → Option (List ℕ)) → Sizes → Members
    → Result AlarmRow SettingsFault
alarm_of find sizes t = do
  known ← only (table_keys key.Alarm) t
  engine ← needed_at key.Engine (hex_in 5 32) t
  name ← name_at find key.Name t
  rising ← needed_at key.Rising as_integer t
  falling ← needed_at key.Falling as_integer t
  Ok (record { engine = engine; name = name; rising = rising; falling = falling })
