-- Which trees are settings of a station, and of which: key by key, with no order of reading.
use Rattle.std.specs.Prelude.{◌≡◌, ℕ, List, [], map, Option, Some, None, min, option_map}
use Rattle.std.specs.Prelude.{string_bytes, ◌↔◌}
use Rattle.mon_board.specs.declared.instance.Watched.{Watched}
use Rattle.mon_alarms.specs.Rule.{Rule}
use Rattle.mon_udp.specs.declared.addr.Addr.{Addr}
use Rattle.mon_oid.specs.Oid.{IsOid}
use Rattle.mon_smi.specs.Names.{MeansNumbers}
use Rattle.mon_smi.specs.declared.definition.Definition.{Definition}
use Rattle.toml.specs.Data.{Items, no_items, Members, get_member, as_str, as_integer}
use Rattle.mon_settings.specs.declared.station.StationSettings.{StationSettings}
use Rattle.mon_settings.specs.declared.key.Key.{Key}
use Rattle.mon_settings.specs.declared.key.Key.TheVariants as key
use Rattle.mon_settings.specs.declared.sizes.Sizes.{Sizes}
use Rattle.mon_settings.specs.declared.station_tables.AlarmRow.{AlarmRow}
use Rattle.mon_settings.specs.declared.station_tables.ObjectRow.{ObjectRow}
use Rattle.mon_settings.specs.declared.station_tables.PeerRow.{PeerRow}
use Rattle.mon_settings.specs.declared.station_tables.TargetRow.{TargetRow}
use Rattle.mon_settings.specs.Accepted.{KnowsOnly, Holds, HoldsOr, MayHold, AreRows}
use Rattle.mon_settings.specs.Grammar.{station_keys, table_keys}
use Rattle.mon_settings.specs.Key.{key_name}
use Rattle.mon_settings.specs.Leaf.{number_in, text_in, hex_in, addr_in, list_between, texts_in}
use Rattle.mon_config.specs.StationCore.{ArePeersOf, Core}
use Rattle.mon_settings.specs.Watching.{AreElsewhere, AreInstancesOfRows, AreRulesOf, target_from}

-- the settings, with their texts and lists as lists
pub record Station : Type 0 where
  pub core : Core
  pub listen : Addr
  pub label : Option (List ℕ)
  pub file : List ℕ
  pub wait_ms : ℕ
  pub modules : List (List ℕ)
  pub peer_addresses : List Addr
  pub target_labels : List (Option (List ℕ))

-- the settings as contracts compare them
abbrev pub station_view : StationSettings → Station
station_view s = record {
  core = s.core;
  listen = s.listen;
  label = option_map string_bytes s.label;
  file = string_bytes s.file;
  wait_ms = s.wait_ms;
  modules = map string_bytes s.modules.items;
  peer_addresses = s.peer_addresses.items;
  target_labels = map (option_map string_bytes) s.target_labels.items;
}

-- what is outside of the lists
pub record Scalars : Type 0 where
  pub station : ℕ
  pub listen : Addr
  pub file : List ℕ
  pub sizes : Sizes
  pub wait_ms : ℕ
  pub label : Option (List ℕ)

-- the core of a station with this number
abbrev pub core_from : ℕ → List TargetRow → List PeerRow → List Watched → List Rule → Core
core_from station targets peers instances rules = record {
  station = station;
  watch = record { instances = instances; rules = rules };
  targets = map (target_from instances) targets;
  peers = map (λ p. p.station) peers;
}

-- how texts resolve under these definitions: to the identifier that a text means, and to none where
-- it means no identifier
abbrev pub Resolves : List Definition → (List ℕ → Option (List ℕ)) → Type 0
Resolves defs find = (text q : List ℕ) → (find text ≡ Some q) ↔ (IsOid q × MeansNumbers defs text q)

-- the key is there, and its text means this identifier
abbrev pub Names : List Definition → Key → Members → List ℕ → Type 0
Names defs k t q = (text : List ℕ) × Holds k as_str t text × (IsOid q × MeansNumbers defs text q)

-- the key names an identifier, or it is left out and there is none
abbrev pub MayName : List Definition → Key → Members → Option (List ℕ) → Type 0
MayName defs k t None = get_member (key_name k) t ≡ None
MayName defs k t (Some q) = Names defs k t q

-- the key is there, with a list of least to most such tables
abbrev pub HoldsBetween : {A : Type 0} → Key → ℕ → ℕ → (Members → A → Type 0) → Members → List A
    → Type 0
HoldsBetween k least most P t rows = (ds : Items) × Holds k (list_between least most) t ds
    × AreRows P ds rows

-- a list of at most this many tables, or the key is left out and there are none
abbrev pub MayHoldUpTo : {A : Type 0} → Key → ℕ → (Members → A → Type 0) → Members → List A → Type 0
MayHoldUpTo k most P t rows = (ds : Items) × HoldsOr k no_items (list_between 0 most) t ds
    × AreRows P ds rows

-- a table of the list of objects
pub record IsObject (defs : List Definition) (sizes : Sizes) (t : Members) (o : ObjectRow) : Type 0
  where
    pub known : KnowsOnly (table_keys key.Objects) t
    pub name : Names defs key.Name t o.name
    pub discontinuity : MayName defs key.Mark t o.discontinuity
    pub window : HoldsOr key.Window sizes.window (number_in 1 64) t o.window
    pub epoch : HoldsOr key.Epoch (min sizes.epoch o.window) (number_in 1 o.window) t o.epoch

-- a table of the list of targets
pub record IsPolled (defs : List Definition) (sizes : Sizes) (t : Members) (r : TargetRow) : Type 0
  where
    pub known : KnowsOnly (table_keys key.Target) t
    pub address : Holds key.Address addr_in t r.address
    pub community : Holds key.Community (text_in 1 512) t r.community
    pub engine : Holds key.Engine (hex_in 5 32) t r.engine
    pub tries : Holds key.Tries (number_in 1 8) t r.tries
    pub label : MayHold key.Label (text_in 1 64) t r.label
    pub objects : HoldsBetween key.Objects 1 16 (IsObject defs sizes) t r.objects

-- a table of the list of peers
pub record IsPeer (t : Members) (p : PeerRow) : Type 0 where
  pub known : KnowsOnly (table_keys key.Peer) t
  pub station : Holds key.Station (number_in 1 4294967295) t p.station
  pub address : Holds key.Address addr_in t p.address

-- a table of the list of alarms
pub record IsAlarm (defs : List Definition) (t : Members) (a : AlarmRow) : Type 0 where
  pub known : KnowsOnly (table_keys key.Alarm) t
  pub engine : Holds key.Engine (hex_in 5 32) t a.engine
  pub name : Names defs key.Name t a.name
  pub rising : Holds key.Rising as_integer t a.rising
  pub falling : Holds key.Falling as_integer t a.falling

-- what is outside of the lists
pub record IsScalars (t : Members) (s : Scalars) : Type 0 where
  pub station : Holds key.Station (number_in 1 4294967295) t s.station
  pub listen : Holds key.Listen addr_in t s.listen
  pub file : Holds key.File (text_in 0 4095) t s.file
  pub window : Holds key.Window (number_in 1 64) t s.sizes.window
  pub epoch : HoldsOr key.Epoch s.sizes.window (number_in 1 s.sizes.window) t s.sizes.epoch
  pub wait_ms : Holds key.WaitMs (number_in 1 60000) t s.wait_ms
  pub label : MayHold key.Label (text_in 1 64) t s.label

-- The settings of a station: each key that is asked for is there, each key there is one of these,
-- no value is out of its range, every name means an identifier, and the lists agree: the instances
-- are those of the targets' objects, no two alike, the rules are those of the alarms, no two alike,
-- and the peers are others, elsewhere.
pub record IsStation (defs : List Definition) (t : Members) (s : Station) : Type 0 where
  pub scalars : Scalars
  pub targets : List TargetRow
  pub peers : List PeerRow
  pub alarms : List AlarmRow
  pub known : KnowsOnly station_keys t
  pub plain : IsScalars t scalars
  pub modules : HoldsOr key.Modules [] texts_in t s.modules
  pub polled : HoldsBetween key.Target 1 64 (IsPolled defs scalars.sizes) t targets
  pub instances : AreInstancesOfRows targets s.core.watch.instances
  pub sharing : MayHoldUpTo key.Peer 15 IsPeer t peers
  pub others : ArePeersOf scalars.station (map (λ p. p.station) peers)
  pub elsewhere : AreElsewhere targets peers
  pub alarmed : MayHoldUpTo key.Alarm 256 (IsAlarm defs) t alarms
  pub rules : AreRulesOf s.core.watch.instances alarms s.core.watch.rules
  pub core : core_from scalars.station targets peers s.core.watch.instances s.core.watch.rules
      ≡ s.core
  pub listen : scalars.listen ≡ s.listen
  pub label : scalars.label ≡ s.label
  pub file : scalars.file ≡ s.file
  pub wait_ms : scalars.wait_ms ≡ s.wait_ms
  pub addresses : map (λ p. p.address) peers ≡ s.peer_addresses
  pub labels : map (λ t. t.label) targets ≡ s.target_labels
