-- Which fault of a station's tree comes first: the keys in the order of reading, and what two lists
-- have to agree on after the later one. What is accepted is said in StationAccepted, and a law ties
-- both.
use Rattle.std.specs.Prelude.{Bool, not, ◌&&◌, ℕ, ◌==◌, nat_le, List, [], length, map, Option}
use Rattle.std.specs.Prelude.{Result, Ok, Err, string_bytes, if◌then◌else◌}
use Rattle.std.specs.List.{list_all, list_any}
use Rattle.mon_alarms.specs.Rule.{Rule}
use Rattle.mon_board.specs.declared.instance.Watched.{Watched}
use Rattle.mon_oid.specs.Steps.{◌>>=◌}
use Rattle.mon_udp.specs.Addr.{same_addr}
use Rattle.toml.specs.Data.{Members}
use Rattle.mon_settings.specs.StationAccepted.{Scalars, Station, core_from}
use Rattle.mon_settings.specs.declared.key.Key.TheVariants as key
use Rattle.mon_settings.specs.declared.fault.SettingsFault.{SettingsFault}
use Rattle.mon_settings.specs.declared.sizes.Sizes.{Sizes}
use Rattle.mon_settings.specs.declared.station.Scalars.{Scalars as AnyScalars}
use Rattle.mon_settings.specs.declared.station_tables.PeerRow.{PeerRow}
use Rattle.mon_settings.specs.declared.station_tables.TargetRow.{TargetRow}
use Rattle.mon_settings.specs.Grammar.{station_keys}
use Rattle.mon_settings.specs.Keys.{only, needed_at, default_at, optional_at}
use Rattle.mon_settings.specs.Leaf.{number_in, text_in, addr_in, texts_in}
use Rattle.mon_settings.specs.Lists.{rows_between, rows_up_to}
use Rattle.mon_settings.specs.SettingsFault.{bad_value}
use Rattle.mon_settings.specs.Placing.{instances_of_rows, with_alarms}
use Rattle.mon_settings.specs.StationTables.{target_of, peer_of, alarm_of}
use Rattle.mon_settings.specs.Tables.{all_pairs}

-- what is outside of the lists, as contracts compare it
abbrev pub scalars_view : AnyScalars → Scalars
scalars_view s = record {
  station = s.station;
  listen = s.listen;
  file = string_bytes s.file;
  sizes
      = s.sizes;
  wait_ms = s.wait_ms;
  label = s.label;
}

-- what is outside of the lists; the epoch is the window if it is left out
unfoldable pub scalars_of : Members → Result Scalars SettingsFault
scalars_of t = do
  station ← needed_at key.Station (number_in 1 4294967295) t
  listen ← needed_at key.Listen addr_in t
  file ← needed_at key.File (text_in 0 4095) t
  window ← needed_at key.Window (number_in 1 64) t
  epoch ← default_at key.Epoch window (number_in 1 window) t
  wait_ms ← needed_at key.WaitMs (number_in 1 60000) t
  label ← optional_at key.Label (text_in 1 64) t
  Ok (record {
    station = station;
    listen = listen;
    file = file;
    sizes = record { window = window; epoch = epoch };
    wait_ms = wait_ms;
    label = label;
  })

-- the module files, none where the key is left out
abbrev pub modules_at : Members → Result (List (List ℕ)) SettingsFault
modules_at t = default_at key.Modules [] texts_in t

-- at most 15 numbers, none of them the own one, and none twice
abbrev pub are_peer_numbers : ℕ → List ℕ → Bool
are_peer_numbers own numbers =
    nat_le (length numbers) 15 && (list_all (λ n. not (n == own)) numbers
    && all_pairs (λ a b. not (a == b)) numbers)

-- no target is asked at a peer's address
abbrev pub are_apart : List TargetRow → List PeerRow → Bool
are_apart targets peers = list_all (λ p. not (list_any (λ t. same_addr t.address p.address)
    targets)) peers

-- the peers: at most 15 other stations, none twice, and none at the address of a target
abbrev pub checked_peers : ℕ → List TargetRow → List PeerRow → Result (List PeerRow) SettingsFault
checked_peers own targets peers =
    if are_peer_numbers own (map (λ p. p.station) peers) && are_apart targets peers then Ok peers
    else Err (bad_value key.Peer)

-- the peers, none where the key is left out
unfoldable pub peers_at : ℕ → List TargetRow → Members → Result (List PeerRow) SettingsFault
peers_at own targets t = rows_up_to key.Peer 15 peer_of t >>= checked_peers own targets

-- the alarm rules, none where the key is left out
unfoldable pub rules_at : (List ℕ → Option (List ℕ)) → Sizes → List Watched → Members
    → Result (List Rule) SettingsFault
rules_at find sizes instances t = rows_up_to key.Alarm 256 (alarm_of find sizes) t >>=
    (λ alarms. with_alarms instances 1 alarms [])

-- what a tree gives: unknown keys are refused first, and then the keys are read in this order; what
-- two lists have to agree on is tested after the later one
unfoldable pub station_of : (List ℕ → Option (List ℕ)) → Members → Result Station SettingsFault
station_of find t = do
  known ← only station_keys t
  scalars ← scalars_of t
  modules ← modules_at t
  targets ← rows_between key.Target 1 64 (target_of find scalars.sizes) t
  instances ← instances_of_rows targets
  peers ← peers_at scalars.station targets t
  rules ← rules_at find scalars.sizes instances t
  Ok (record {
    core = core_from scalars.station targets peers instances rules;
    listen = scalars.listen;
    label = scalars.label;
    file = scalars.file;
    wait_ms = scalars.wait_ms;
    modules = modules;
    peer_addresses = map (λ p. p.address) peers;
    target_labels = map (λ t. t.label) targets;
  })
