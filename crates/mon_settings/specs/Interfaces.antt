-- Which fault of the interfaces comes first.
use Rattle.std.specs.Prelude.{Bool, true, ◌&&◌, ℕ, nat_lt, List, [], ◌∷◌, Result, Ok, Err}
use Rattle.std.specs.Prelude.{if◌then◌else◌}
use Rattle.toml.specs.Data.{Members, as_table}
use Rattle.mon_mib.specs.Held.{at_start}
use Rattle.mon_mib.specs.declared.interface.Growth.{Growth}
use Rattle.mon_mib.specs.declared.interface.Interface.{Interface}
use Rattle.mon_oid.specs.Steps.{◌>>=◌}
use Rattle.mon_settings.specs.declared.key.Key.{Key}
use Rattle.mon_settings.specs.declared.key.Key.TheVariants as key
use Rattle.mon_settings.specs.declared.fault.SettingsFault.{SettingsFault}
use Rattle.mon_settings.specs.declared.place.PathPart.TheVariants as step
use Rattle.mon_settings.specs.declared.tables.Counts.{Counts}
use Rattle.mon_settings.specs.SettingsFault.{bad_value}
use Rattle.mon_settings.specs.Grammar.{growth_keys, table_keys}
use Rattle.mon_settings.specs.Keys.{only, needed_at, within}
use Rattle.mon_settings.specs.Leaf.{number_in, int_in, text_in, hex_in, long_in}
use Rattle.mon_settings.specs.Lists.{list_at}

-- how a count begins, and what each second adds
unfoldable pub growth_of : Members → Result Growth SettingsFault
growth_of t = do
  known ← only growth_keys t
  start ← needed_at key.Start long_in t
  rate ← needed_at key.Rate long_in t
  Ok (record { start = start; rate = rate })

-- a count at the start, and what each second adds
unfoldable pub growth_at : Key → Members → Result Growth SettingsFault
growth_at k t = needed_at k as_table t >>= (λ inner. within (step.Value k) (growth_of inner))

-- the four counts of an interface
unfoldable pub counts_of : Members → Result Counts SettingsFault
counts_of t = do
  in_octets ← growth_at key.InOctets t
  in_packets ← growth_at key.InPackets t
  out_octets ← growth_at key.OutOctets t
  out_packets ← growth_at key.OutPackets t
  Ok (record {
    in_octets = in_octets;
    in_packets = in_packets;
    out_octets = out_octets;
    out_packets
        = out_packets;
  })

-- the interface of a table
unfoldable pub interface_of : Members → Result Interface SettingsFault
interface_of t = do
  known ← only (table_keys key.Interface) t
  index ← needed_at key.Index (number_in 1 2147483647) t
  descr ← needed_at key.Descr (text_in 0 255) t
  kind ← needed_at key.Type (int_in 0 2147483647) t
  mtu ← needed_at key.Mtu (int_in 0 2147483647) t
  speed ← needed_at key.Speed long_in t
  phys ← needed_at key.Phys (hex_in 0 255) t
  name ← needed_at key.Name (text_in 0 255) t
  alias ← needed_at key.Alias (text_in 0 64) t
  counts ← counts_of t
  Ok (record {
    index = index;
    descr = descr;
    kind = kind;
    mtu = mtu;
    speed = speed;
    phys = phys;
    name = name;
    alias = alias;
    status = at_start;
    in_octets = counts.in_octets;
    in_packets = counts.in_packets;
    out_octets = counts.out_octets;
    out_packets = counts.out_packets;
  })

-- the indexes rise strictly from above a number
abbrev pub rise_from : ℕ → List Interface → Bool
rise_from last [] = true
rise_from last (p ∷ ps) = nat_lt last p.index && rise_from p.index ps

-- the interfaces, if their indexes rise
unfoldable pub rising : List Interface → Result (List Interface) SettingsFault
rising ps = if rise_from 0 ps then Ok ps else Err (bad_value key.Interface)

-- the list of the interfaces, whose indexes rise
unfoldable pub interfaces_in : Members → Result (List Interface) SettingsFault
interfaces_in t = list_at key.Interface interface_of t >>= rising
