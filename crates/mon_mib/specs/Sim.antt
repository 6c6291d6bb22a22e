-- The simulated device.
use Rattle.std.specs.Prelude.{◌≡◌, ℕ, ◌<◌, length, slice_index_or, Bool, true, ◌+◌, ◌*◌, ◌%◌, ◌^◌}
use Rattle.std.specs.Prelude.{List, [], map, find, Option, Some, None, nat_eq, nat_lt, pos}
use Rattle.mon_mib.specs.declared.facts.Facts.{Facts}
use Rattle.mon_mib.specs.declared.facts.SysText.{SysText}
use Rattle.mon_mib.specs.declared.facts.SysText.TheVariants.{Contact, SystemName, Location}
use Rattle.mon_mib.specs.declared.facts.IfText.{IfText}
use Rattle.mon_mib.specs.declared.facts.IfText.TheVariants.{Descr, Phys, ShortName, Alias}
use Rattle.mon_mib.specs.declared.status.Status.{Status}
use Rattle.mon_mib.specs.declared.admin_status.AdminStatus.TheVariants as admin
use Rattle.mon_mib.specs.declared.oper_status.OperStatus.TheVariants as oper
use Rattle.mon_mib.specs.declared.interface.Growth.{Growth}
use Rattle.mon_mib.specs.declared.interface.Interface.{Interface}
use Rattle.mon_mib.specs.declared.sys_texts.SysTexts.{SysTexts}
use Rattle.mon_mib.specs.Held.{Held, at_start, oper_of}
use Rattle.mon_mib.specs.Moment.{engine_time}

-- its interfaces, the texts that can be set, and how many changes it has failed to make
pub record Sim : Type 0 where
  pub interfaces : List Interface
  pub texts : SysTexts
  pub failures : ℕ

-- the indexes of interfaces
abbrev pub indexes_of : List Interface → List ℕ
indexes_of interfaces = map (λ p. p.index) interfaces

-- the first interface of an index
abbrev pub interface_at : List Interface → ℕ → Option Interface
interface_at interfaces index = find (λ p. nat_eq p.index index) interfaces

-- an index is that of the interface at a place
pub record IsPlaceOfIndex (interfaces : List Interface) (index place : ℕ) : Type 0 where
  pub within : place < length interfaces
  pub is : (d : Interface) → (slice_index_or interfaces place d).index ≡ index

-- start + rate * seconds, modulo 2^64
abbrev pub grown : Growth → ℕ → ℕ
grown growth moment = (growth.start + growth.rate * engine_time moment) % 2 ^ 64

-- The facts of an interface at a time: the operational status is the administrative one, octets and
-- packets grow, and nothing is discarded, wrong, unknown or discontinuous.
abbrev pub interface_facts : Interface → ℕ → Facts
interface_facts p moment = record {
  kind = p.kind;
  mtu = p.mtu;
  speed = p.speed;
  admin = p.status.admin;
  oper = oper_of p.status.admin;
  last_change = p.status.since;
  in_octets = grown p.in_octets moment;
  in_packets = grown p.in_packets moment;
  in_discards = 0;
  in_errors = 0;
  in_unknown = 0;
  out_octets = grown p.out_octets moment;
  out_packets = grown p.out_packets moment;
  out_discards = 0;
  out_errors = 0;
  discontinuity = 0;
}

-- Its numbers, except those of its status; nobody asks for those of an absent interface.
abbrev pub sim_facts : Option Interface → ℕ → Facts
sim_facts (Some p) moment = record (interface_facts p moment)
    { admin = admin.Up; oper = oper.Up; last_change = 0 }
sim_facts None moment = record {
  kind = pos 0;
  mtu = pos 0;
  speed = 0;
  admin = admin.Up;
  oper = oper.Up;
  last_change = 0;
  in_octets = 0;
  in_packets = 0;
  in_discards = 0;
  in_errors = 0;
  in_unknown = 0;
  out_octets = 0;
  out_packets = 0;
  out_discards = 0;
  out_errors = 0;
  discontinuity = 0;
}

-- the texts of the device
abbrev pub sys_text_of : SysTexts → SysText → List ℕ
sys_text_of texts Contact = texts.contact
sys_text_of texts SystemName = texts.name
sys_text_of texts Location = texts.location

-- the texts of an interface, none if it is absent
abbrev pub text_of : Option Interface → IfText → List ℕ
text_of (Some p) Descr = p.descr
text_of (Some p) Phys = p.phys
text_of (Some p) ShortName = p.name
text_of (Some p) Alias = p.alias
text_of None which = []

-- its status
abbrev pub sim_status : Option Interface → Status
sim_status (Some p) = p.status
sim_status None = at_start

-- its texts that no Set changes
abbrev pub fixed_of : Option Interface → IfText → List ℕ
fixed_of (Some p) Descr = p.descr
fixed_of (Some p) Phys = p.phys
fixed_of (Some p) ShortName = p.name
fixed_of (Some p) Alias = []
fixed_of None which = []

-- what the device holds
abbrev pub held_of : Sim → Held
held_of sim = record {
  indexes = indexes_of sim.interfaces;
  sys_text = sys_text_of sim.texts;
  status = λ index. sim_status (interface_at sim.interfaces index);
  alias = λ index. text_of (interface_at sim.interfaces index) Alias;
  fixed_text = λ index which. fixed_of (interface_at sim.interfaces index) which;
  numbers = λ index moment. sim_facts (interface_at sim.interfaces index) moment;
}

-- whether an index is above a number if one is given, else any
abbrev pub is_over : Option ℕ → ℕ → Bool
is_over None index = true
is_over (Some after) index = nat_lt after index
