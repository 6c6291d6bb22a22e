-- What the agent knows at a time, and the variables that it makes of it (RFC 3418, RFC 2863 section
-- 6, RFC 3411 section 5).
use Rattle.std.specs.Prelude.{ℕ, ◌+◌, ◌/◌, ◌%◌, ◌^◌, min, pos, List, [], ◌∷◌, ◌++◌, length, map}
use Rattle.std.specs.List.{flat_map}
use Rattle.mon_ber.specs.declared.value.Value.{Value}
use Rattle.mon_ber.specs.declared.value.Value.TheVariants.{Integer, Octets, Name, Counter32}
use Rattle.mon_ber.specs.declared.value.Value.TheVariants.{Gauge32, TimeTicks, Counter64}
use Rattle.mon_pdu.specs.declared.message.Binding.{Binding}
use Rattle.mon_mib.specs.declared.settings.Settings.{Settings}
use Rattle.mon_mib.specs.declared.counters.Counters.{Counters}
use Rattle.mon_mib.specs.declared.facts.Facts.{Facts}
use Rattle.mon_mib.specs.declared.facts.SysText.TheVariants.{Contact, SystemName, Location}
use Rattle.mon_mib.specs.declared.facts.IfText.TheVariants.{Descr, Phys, ShortName, Alias}
use Rattle.mon_mib.specs.declared.scalar.Scalar.{Scalar}
use Rattle.mon_mib.specs.declared.scalar.Scalar.TheVariants.{
  SysDescr,
  SysObjectId,
  SysUpTime,
  SysContact,
  SysName,
  SysLocation,
  SysServices,
  IfNumber,
  SnmpInPkts,
  SnmpInBadVersions,
  SnmpInBadCommunityNames,
  SnmpInAsnParseErrs,
  SnmpSilentDrops,
  SnmpEngineId,
  SnmpEngineBoots,
  SnmpEngineTime,
  SnmpEngineMaxMessageSize,
}
use Rattle.mon_mib.specs.declared.column.Column.{Column}
use Rattle.mon_mib.specs.declared.column.Column.TheVariants.{
  IfIndex,
  IfDescr,
  IfType,
  IfMtu,
  IfSpeed,
  IfPhysAddress,
  IfAdminStatus,
  IfOperStatus,
  IfLastChange,
  IfInOctets,
  IfInUcastPkts,
  IfInDiscards,
  IfInErrors,
  IfInUnknownProtos,
  IfOutOctets,
  IfOutUcastPkts,
  IfOutDiscards,
  IfOutErrors,
  IfName,
  IfHcInOctets,
  IfHcInUcastPkts,
  IfHcOutOctets,
  IfHcOutUcastPkts,
  IfHighSpeed,
  IfAlias,
  IfCounterDiscontinuityTime,
}
use Rattle.mon_mib.specs.declared.object.Object.{Object}
use Rattle.mon_mib.specs.declared.object.Object.TheVariants as served
use Rattle.mon_mib.specs.Objects.{prefix_of, objects}
use Rattle.mon_mib.specs.Held.{Held, facts_at, text_at}
use Rattle.mon_mib.specs.Moment.{up_time, engine_time}
use Rattle.mon_mib.specs.Status.{admin_number, oper_number}

-- settings, counters, and what the device holds, at a time
pub record Known : Type 0 where
  pub settings : Settings
  pub counters : Counters
  pub held : Held
  pub moment : ℕ

-- what the agent knows, of settings, counters and what the device holds
abbrev pub known_of : Settings → Counters → Held → ℕ → Known
known_of settings counters held moment = record {
  settings = settings;
  counters = counters;
  held =
      held;
  moment = moment;
}

-- the values of the scalars
abbrev pub scalar_value : Known → Scalar → Value
scalar_value k SysDescr = Octets k.settings.descr
scalar_value k SysObjectId = Name k.settings.object_id
scalar_value k SysUpTime = TimeTicks (up_time k.moment)
scalar_value k SysContact = Octets (k.held.sys_text Contact)
scalar_value k SysName = Octets (k.held.sys_text SystemName)
scalar_value k SysLocation = Octets (k.held.sys_text Location)
scalar_value k SysServices = Integer k.settings.services
scalar_value k IfNumber = Integer (pos (length k.held.indexes))
scalar_value k SnmpInPkts = Counter32 k.counters.in_packets
scalar_value k SnmpInBadVersions = Counter32 k.counters.bad_versions
scalar_value k SnmpInBadCommunityNames = Counter32 k.counters.bad_communities
scalar_value k SnmpInAsnParseErrs = Counter32 k.counters.parse_errors
scalar_value k SnmpSilentDrops = Counter32 k.counters.silent_drops
scalar_value k SnmpEngineId = Octets k.settings.engine
scalar_value k SnmpEngineBoots = Integer k.settings.boots
scalar_value k SnmpEngineTime = Integer (pos (engine_time k.moment))
scalar_value k SnmpEngineMaxMessageSize = Integer k.settings.max_message_size

-- the values of the columns, from an interface's facts: ifSpeed is at most 4294967295, ifHighSpeed
-- is in millions, rounded, and a 32-bit counter is the 64-bit one modulo 2^32 (RFC 2863 sections
-- 3.1.6 and 3.1.7)
abbrev pub column_value : Known → Facts → ℕ → Column → Value
column_value k f i IfIndex = Integer (pos i)
column_value k f i IfDescr = Octets (text_at k.held i Descr)
column_value k f i IfType = Integer f.kind
column_value k f i IfMtu = Integer f.mtu
column_value k f i IfSpeed = Gauge32 (min f.speed 4294967295)
column_value k f i IfPhysAddress = Octets (text_at k.held i Phys)
column_value k f i IfAdminStatus = Integer (admin_number f.admin)
column_value k f i IfOperStatus = Integer (oper_number f.oper)
column_value k f i IfLastChange = TimeTicks f.last_change
column_value k f i IfInOctets = Counter32 (f.in_octets % 2 ^ 32)
column_value k f i IfInUcastPkts = Counter32 (f.in_packets % 2 ^ 32)
column_value k f i IfInDiscards = Counter32 f.in_discards
column_value k f i IfInErrors = Counter32 f.in_errors
column_value k f i IfInUnknownProtos = Counter32 f.in_unknown
column_value k f i IfOutOctets = Counter32 (f.out_octets % 2 ^ 32)
column_value k f i IfOutUcastPkts = Counter32 (f.out_packets % 2 ^ 32)
column_value k f i IfOutDiscards = Counter32 f.out_discards
column_value k f i IfOutErrors = Counter32 f.out_errors
column_value k f i IfName = Octets (text_at k.held i ShortName)
column_value k f i IfHcInOctets = Counter64 f.in_octets
column_value k f i IfHcInUcastPkts = Counter64 f.in_packets
column_value k f i IfHcOutOctets = Counter64 f.out_octets
column_value k f i IfHcOutUcastPkts = Counter64 f.out_packets
column_value k f i IfHighSpeed = Gauge32 (min ((f.speed + 500000) / 1000000) 4294967295)
column_value k f i IfAlias = Octets (text_at k.held i Alias)
column_value k f i IfCounterDiscontinuityTime = TimeTicks f.discontinuity

-- the value of the object's variable of an instance
unfoldable pub variable_value : Known → Object → ℕ → Value
variable_value k (served.Scalar s) i = scalar_value k s
variable_value k (served.Column c) i = column_value k (facts_at k.held i k.moment) i c

-- the instances of an object's variables
abbrev pub instances : Held → Object → List ℕ
instances h (served.Scalar s) = 0 ∷ []
instances h (served.Column c) = h.indexes

-- the variable of an object and an instance: its name is the object's with the instance after it
-- (RFC 2578 section 7.7)
abbrev pub variable : Known → Object → ℕ → Binding
variable k o i = record { name = prefix_of o ++ i ∷ []; value = variable_value k o i }

-- all variables, in the order of their names
abbrev pub vars : Known → List Binding
vars k = flat_map (λ o. map (variable k o) (instances k.held o)) objects
