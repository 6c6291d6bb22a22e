-- Which trees are settings of an agent, and of which: key by key, with no order of reading.
use Rattle.std.specs.Prelude.{◌≡◌, ◌⊎◌, ℕ, List, [], ◌∷◌, Any, Option, Some, None, option_map, pos}
use Rattle.mon_mib.specs.declared.sys_texts.SysTexts.{SysTexts}
use Rattle.mon_mib.specs.declared.settings.Settings.{Settings}
use Rattle.mon_udp.specs.declared.addr.Addr.{Addr}
use Rattle.toml.specs.Data.{Data, Items, no_items, item, Members, get_member, as_table, as_bool}
use Rattle.mon_mib.specs.Held.{at_start}
use Rattle.mon_mib.specs.Held.{AreIndexes}
use Rattle.mon_mib.specs.Sim.{indexes_of}
use Rattle.mon_mib.specs.declared.interface.Growth.{Growth}
use Rattle.mon_mib.specs.declared.interface.Interface.{Interface}
use Rattle.mon_vacm.specs.Tables.{IsPolicy, PolicyTables}
use Rattle.mon_vacm.specs.declared.access_entry.AccessEntry.{AccessEntry}
use Rattle.mon_vacm.specs.declared.community.Community.{Community}
use Rattle.mon_vacm.specs.declared.family.ViewTreeFamily.{ViewTreeFamily}
use Rattle.mon_vacm.specs.declared.group.Group.{Group}
use Rattle.mon_settings.specs.declared.agent.AgentSettings.{AgentSettings}
use Rattle.mon_settings.specs.declared.key.Key.{Key}
use Rattle.mon_settings.specs.declared.key.Key.TheVariants as key
use Rattle.mon_settings.specs.Grammar.{agent_keys, growth_keys, table_keys}
use Rattle.mon_settings.specs.Key.{key_name}
use Rattle.mon_settings.specs.Leaf.{number_in, int_in, text_in, hex_in, oid_in, addr_in, model_in}
use Rattle.mon_settings.specs.Leaf.{long_in, list_in}

-- the settings, with their lists as lists
pub record Agent : Type 0 where
  pub listen : Addr
  pub settings : Settings
  pub texts : SysTexts
  pub policy : PolicyTables
  pub interfaces : List Interface

-- the settings as contracts compare them
abbrev pub agent_view : AgentSettings → Agent
agent_view s = record {
  listen = s.listen;
  settings = s.settings;
  texts = s.texts;
  policy = s.policy;
  interfaces = s.interfaces.items;
}

-- each key of a table is one of these
abbrev pub KnowsOnly : List Key → Members → Type 0
KnowsOnly ks t = (name : List ℕ) (d : Data) → get_member name t ≡ Some d
    → Any (λ k. key_name k ≡ name) ks

-- the key is there, and its value is this one
abbrev pub Holds : {A : Type 0} → Key → (Data → Option A) → Members → A → Type 0
Holds k f t a = (d : Data) × (get_member (key_name k) t ≡ Some d) × (f d ≡ Some a)

-- the key has such a value, or it is left out and the value is the default
abbrev pub HoldsOr : {A : Type 0} → Key → A → (Data → Option A) → Members → A → Type 0
HoldsOr k default f t a = ((get_member (key_name k) t ≡ None) × (default ≡ a)) ⊎ Holds k f t a

-- the key has such a value, or it is left out and there is none
abbrev pub MayHold : {A : Type 0} → Key → (Data → Option A) → Members → Option A → Type 0
MayHold k f t a = HoldsOr k None (λ d. option_map Some (f d)) t a

-- tables, one for each element, in their order
abbrev pub AreRows : {A : Type 0} → (Members → A → Type 0) → Items → List A → Type 0
AreRows P no_items [] = Unit {0}
AreRows P no_items (a ∷ rest) = ⊥
AreRows P (item d ds) [] = ⊥
AreRows P (item d ds) (a ∷ rest) = (t : Members) × (as_table d ≡ Some t) × P t a × AreRows P ds rest

-- the key is there, with a list of such tables
abbrev pub HoldsRows : {A : Type 0} → Key → (Members → A → Type 0) → Members → List A → Type 0
HoldsRows k P t rest = (ds : Items) × Holds k list_in t ds × AreRows P ds rest

-- a table of the list of communities
pub record IsCommunity (t : Members) (c : Community) : Type 0 where
  pub known : KnowsOnly (table_keys key.Community) t
  pub community : Holds key.Community (text_in 1 512) t c.name
  pub security : Holds key.Security (text_in 1 32) t c.security_name

-- a table of the list of groups
pub record IsGroup (t : Members) (g : Group) : Type 0 where
  pub known : KnowsOnly (table_keys key.Group) t
  pub security : Holds key.Security (text_in 1 32) t g.security_name
  pub group : Holds key.Group (text_in 1 32) t g.group_name

-- a table of the list of access entries
pub record IsAccess (t : Members) (a : AccessEntry) : Type 0 where
  pub known : KnowsOnly (table_keys key.Access) t
  pub group : Holds key.Group (text_in 1 32) t a.group_name
  pub model : Holds key.Model model_in t a.security_model
  pub read : MayHold key.Read (text_in 1 32) t a.read_view
  pub write : MayHold key.Write (text_in 1 32) t a.write_view

-- a table of the list of view families
pub record IsFamily (t : Members) (f : ViewTreeFamily) : Type 0 where
  pub known : KnowsOnly (table_keys key.View) t
  pub view : Holds key.View (text_in 1 32) t f.view_name
  pub subtree : Holds key.Subtree oid_in t f.subtree
  pub mask : HoldsOr key.Mask [] (hex_in 0 16) t f.mask
  pub included : Holds key.Included as_bool t f.included

-- a table of a count
pub record IsGrowth (t : Members) (g : Growth) : Type 0 where
  pub known : KnowsOnly growth_keys t
  pub start : Holds key.Start long_in t g.start
  pub rate : Holds key.Rate long_in t g.rate

-- the key is there, with such a table
abbrev pub HoldsGrowth : Key → Members → Growth → Type 0
HoldsGrowth k t g = (inner : Members) × Holds k as_table t inner × IsGrowth inner g

-- a table of the list of interfaces
pub record IsInterface (t : Members) (p : Interface) : Type 0 where
  pub known : KnowsOnly (table_keys key.Interface) t
  pub index : Holds key.Index (number_in 1 2147483647) t p.index
  pub descr : Holds key.Descr (text_in 0 255) t p.descr
  pub kind : Holds key.Type (int_in 0 2147483647) t p.kind
  pub mtu : Holds key.Mtu (int_in 0 2147483647) t p.mtu
  pub speed : Holds key.Speed long_in t p.speed
  pub phys : Holds key.Phys (hex_in 0 255) t p.phys
  pub name : Holds key.Name (text_in 0 255) t p.name
  pub alias : Holds key.Alias (text_in 0 64) t p.alias
  pub status : p.status ≡ at_start
  pub in_octets : HoldsGrowth key.InOctets t p.in_octets
  pub in_packets : HoldsGrowth key.InPackets t p.in_packets
  pub out_octets : HoldsGrowth key.OutOctets t p.out_octets
  pub out_packets : HoldsGrowth key.OutPackets t p.out_packets

-- The settings of an agent: each key that is asked for is there, each key there is one of these, no
-- value is out of its range, the tables make a policy, and the indexes of the interfaces rise.
pub record IsAgent (t : Members) (a : Agent) : Type 0 where
  pub known : KnowsOnly agent_keys t
  pub listen : Holds key.Listen addr_in t a.listen
  pub limit : Holds key.Limit (int_in 484 8192) t a.settings.max_message_size
  pub engine : Holds key.Engine (hex_in 5 32) t a.settings.engine
  pub boots : HoldsOr key.Boots (pos 1) (int_in 1 2147483647) t a.settings.boots
  pub descr : Holds key.Descr (text_in 0 255) t a.settings.descr
  pub object_id : Holds key.ObjectId oid_in t a.settings.object_id
  pub contact : Holds key.Contact (text_in 0 255) t a.texts.contact
  pub name : Holds key.Name (text_in 0 255) t a.texts.name
  pub location : Holds key.Location (text_in 0 255) t a.texts.location
  pub services : Holds key.Services (int_in 0 127) t a.settings.services
  pub communities : HoldsRows key.Community IsCommunity t a.policy.communities
  pub groups : HoldsRows key.Group IsGroup t a.policy.groups
  pub accesses : HoldsRows key.Access IsAccess t a.policy.accesses
  pub families : HoldsRows key.View IsFamily t a.policy.families
  pub policy : IsPolicy a.policy
  pub interfaces : HoldsRows key.Interface IsInterface t a.interfaces
  pub rising : AreIndexes (indexes_of a.interfaces)
