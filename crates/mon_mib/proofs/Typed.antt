-- Each object's values have the tag of its syntax.
use Rattle.std.proofs.Common.{◌≡◌, ℕ, refl}
use Rattle.mon_ber.specs.Grammar.{tag_of}
use Rattle.mon_mib.specs.declared.facts.Facts.{Facts}
use Rattle.mon_mib.specs.declared.scalar.Scalar.{Scalar}
use Rattle.mon_mib.specs.declared.scalar.Scalar.TheVariants.{SysDescr, SysObjectId, SysUpTime, SysContact, SysName, SysLocation, SysServices, IfNumber, SnmpInPkts, SnmpInBadVersions, SnmpInBadCommunityNames, SnmpInAsnParseErrs, SnmpSilentDrops, SnmpEngineId, SnmpEngineBoots, SnmpEngineTime, SnmpEngineMaxMessageSize}
use Rattle.mon_mib.specs.declared.column.Column.{Column}
use Rattle.mon_mib.specs.declared.column.Column.TheVariants.{IfIndex, IfDescr, IfType, IfMtu, IfSpeed, IfPhysAddress, IfAdminStatus, IfOperStatus, IfLastChange, IfInOctets, IfInUcastPkts, IfInDiscards, IfInErrors, IfInUnknownProtos, IfOutOctets, IfOutUcastPkts, IfOutDiscards, IfOutErrors, IfName, IfHcInOctets, IfHcInUcastPkts, IfHcOutOctets, IfHcOutUcastPkts, IfHighSpeed, IfAlias, IfCounterDiscontinuityTime}
use Rattle.mon_mib.specs.declared.object.Object.{Object}
use Rattle.mon_mib.specs.declared.object.Object.TheVariants as served
use Rattle.mon_mib.specs.Held.{facts_at}
use Rattle.mon_mib.specs.Known.{Known, scalar_value, column_value, variable_value}
use Rattle.mon_mib.specs.Objects.{scalar_row, column_row, syntax_of}

scalar : (k : Known) (s : Scalar) → tag_of (scalar_value k s) ≡ (scalar_row s).syntax
scalar k SysDescr = refl
scalar k SysObjectId = refl
scalar k SysUpTime = refl
scalar k SysContact = refl
scalar k SysName = refl
scalar k SysLocation = refl
scalar k SysServices = refl
scalar k IfNumber = refl
scalar k SnmpInPkts = refl
scalar k SnmpInBadVersions = refl
scalar k SnmpInBadCommunityNames = refl
scalar k SnmpInAsnParseErrs = refl
scalar k SnmpSilentDrops = refl
scalar k SnmpEngineId = refl
scalar k SnmpEngineBoots = refl
scalar k SnmpEngineTime = refl
scalar k SnmpEngineMaxMessageSize = refl

column : (k : Known) (f : Facts) (i : ℕ) (c : Column) → tag_of (column_value k f i c) ≡ (column_row c).syntax
column k f i IfIndex = refl
column k f i IfDescr = refl
column k f i IfType = refl
column k f i IfMtu = refl
column k f i IfSpeed = refl
column k f i IfPhysAddress = refl
column k f i IfAdminStatus = refl
column k f i IfOperStatus = refl
column k f i IfLastChange = refl
column k f i IfInOctets = refl
column k f i IfInUcastPkts = refl
column k f i IfInDiscards = refl
column k f i IfInErrors = refl
column k f i IfInUnknownProtos = refl
column k f i IfOutOctets = refl
column k f i IfOutUcastPkts = refl
column k f i IfOutDiscards = refl
column k f i IfOutErrors = refl
column k f i IfName = refl
column k f i IfHcInOctets = refl
column k f i IfHcInUcastPkts = refl
column k f i IfHcOutOctets = refl
column k f i IfHcOutUcastPkts = refl
column k f i IfHighSpeed = refl
column k f i IfAlias = refl
column k f i IfCounterDiscontinuityTime = refl

pub typed : (k : Known) (o : Object) (i : ℕ) → tag_of (variable_value k o i) ≡ syntax_of o
unfolding variable_value
typed k (served.Scalar s) i = scalar k s
typed k (served.Column c) i = column k (facts_at k.held i k.moment) i c
