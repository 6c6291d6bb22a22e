-- The served objects, in the order of their names (RFC 3418 section 2, RFC 2863 section 6, RFC 3411
-- section 5).
use Rattle.std.specs.Prelude.{ℕ, Bool, true, ◌&&◌, List, [], ◌∷◌}
use Rattle.std.specs.List.{list_all}
use Rattle.mon_ber.specs.declared.tag.Tag.{Tag}
use Rattle.mon_ber.specs.declared.tag.Tag.TheVariants as tag
use Rattle.mon_mib.specs.Order.{is_before}
use Rattle.mon_mib.specs.declared.max_access.MaxAccess.{MaxAccess}
use Rattle.mon_mib.specs.declared.max_access.MaxAccess.TheVariants.{ReadOnly, ReadWrite}
use Rattle.mon_mib.specs.declared.scalar.Scalar.{Scalar}
use Rattle.mon_mib.specs.declared.scalar.Scalar.TheVariants.{
  SysDescr,
  SysObjectId,
  SysUpTime,
  SysContact,
  SysName,
  SysLocation,
  SysServices,
  IfNumber,
  SnmpInPkts,
  SnmpInBadVersions,
  SnmpInBadCommunityNames,
  SnmpInAsnParseErrs,
  SnmpSilentDrops,
  SnmpEngineId,
  SnmpEngineBoots,
  SnmpEngineTime,
  SnmpEngineMaxMessageSize,
}
use Rattle.mon_mib.specs.declared.column.Column.{Column}
use Rattle.mon_mib.specs.declared.column.Column.TheVariants.{
  IfIndex,
  IfDescr,
  IfType,
  IfMtu,
  IfSpeed,
  IfPhysAddress,
  IfAdminStatus,
  IfOperStatus,
  IfLastChange,
  IfInOctets,
  IfInUcastPkts,
  IfInDiscards,
  IfInErrors,
  IfInUnknownProtos,
  IfOutOctets,
  IfOutUcastPkts,
  IfOutDiscards,
  IfOutErrors,
  IfName,
  IfHcInOctets,
  IfHcInUcastPkts,
  IfHcOutOctets,
  IfHcOutUcastPkts,
  IfHighSpeed,
  IfAlias,
  IfCounterDiscontinuityTime,
}
use Rattle.mon_mib.specs.declared.object.Object.{Object}
use Rattle.mon_mib.specs.declared.object.Object.TheVariants as served

-- What the standards give of an object: what the names of its variables begin with, the tag of
-- their values (SYNTAX), and what may be done with them (MAX-ACCESS) (RFC 2578 section 7).
pub record Row : Type 0 where
  pub prefix : List ℕ
  pub syntax : Tag
  pub access : MaxAccess

-- an object whose variables may be read
abbrev pub read_only : Tag → List ℕ → Row
read_only syntax prefix = record { prefix = prefix; syntax = syntax; access = ReadOnly }

-- an object whose variables a Set may change too
abbrev pub read_write : Tag → List ℕ → Row
read_write syntax prefix = record { prefix = prefix; syntax = syntax; access = ReadWrite }

-- the objects with one variable
abbrev pub scalar_row : Scalar → Row
scalar_row SysDescr = read_only tag.OctetString (1 ∷ 3 ∷ 6 ∷ 1 ∷ 2 ∷ 1 ∷ 1 ∷ 1 ∷ [])
scalar_row SysObjectId = read_only tag.ObjectIdentifier (1 ∷ 3 ∷ 6 ∷ 1 ∷ 2 ∷ 1 ∷ 1 ∷ 2 ∷ [])
scalar_row SysUpTime = read_only tag.TimeTicks (1 ∷ 3 ∷ 6 ∷ 1 ∷ 2 ∷ 1 ∷ 1 ∷ 3 ∷ [])
scalar_row SysContact = read_write tag.OctetString (1 ∷ 3 ∷ 6 ∷ 1 ∷ 2 ∷ 1 ∷ 1 ∷ 4 ∷ [])
scalar_row SysName = read_write tag.OctetString (1 ∷ 3 ∷ 6 ∷ 1 ∷ 2 ∷ 1 ∷ 1 ∷ 5 ∷ [])
scalar_row SysLocation = read_write tag.OctetString (1 ∷ 3 ∷ 6 ∷ 1 ∷ 2 ∷ 1 ∷ 1 ∷ 6 ∷ [])
scalar_row SysServices = read_only tag.Integer (1 ∷ 3 ∷ 6 ∷ 1 ∷ 2 ∷ 1 ∷ 1 ∷ 7 ∷ [])
scalar_row IfNumber = read_only tag.Integer (1 ∷ 3 ∷ 6 ∷ 1 ∷ 2 ∷ 1 ∷ 2 ∷ 1 ∷ [])
scalar_row SnmpInPkts = read_only tag.Counter32 (1 ∷ 3 ∷ 6 ∷ 1 ∷ 2 ∷ 1 ∷ 11 ∷ 1 ∷ [])
scalar_row SnmpInBadVersions = read_only tag.Counter32 (1 ∷ 3 ∷ 6 ∷ 1 ∷ 2 ∷ 1 ∷ 11 ∷ 3 ∷ [])
scalar_row SnmpInBadCommunityNames = read_only tag.Counter32 (1 ∷ 3 ∷ 6 ∷ 1 ∷ 2 ∷ 1 ∷ 11 ∷ 4 ∷ [])
scalar_row SnmpInAsnParseErrs = read_only tag.Counter32 (1 ∷ 3 ∷ 6 ∷ 1 ∷ 2 ∷ 1 ∷ 11 ∷ 6 ∷ [])
scalar_row SnmpSilentDrops = read_only tag.Counter32 (1 ∷ 3 ∷ 6 ∷ 1 ∷ 2 ∷ 1 ∷ 11 ∷ 31 ∷ [])
scalar_row SnmpEngineId = read_only tag.OctetString (1 ∷ 3 ∷ 6 ∷ 1 ∷ 6 ∷ 3 ∷ 10 ∷ 2 ∷ 1 ∷ 1 ∷ [])
scalar_row SnmpEngineBoots = read_only tag.Integer (1 ∷ 3 ∷ 6 ∷ 1 ∷ 6 ∷ 3 ∷ 10 ∷ 2 ∷ 1 ∷ 2 ∷ [])
scalar_row SnmpEngineTime = read_only tag.Integer (1 ∷ 3 ∷ 6 ∷ 1 ∷ 6 ∷ 3 ∷ 10 ∷ 2 ∷ 1 ∷ 3 ∷ [])
scalar_row SnmpEngineMaxMessageSize = read_only tag.Integer (1 ∷ 3 ∷ 6 ∷ 1 ∷ 6 ∷ 3 ∷ 10 ∷ 2 ∷ 1 ∷ 4
    ∷ [])

-- the columns
abbrev pub column_row : Column → Row
column_row IfIndex = read_only tag.Integer (1 ∷ 3 ∷ 6 ∷ 1 ∷ 2 ∷ 1 ∷ 2 ∷ 2 ∷ 1 ∷ 1 ∷ [])
column_row IfDescr = read_only tag.OctetString (1 ∷ 3 ∷ 6 ∷ 1 ∷ 2 ∷ 1 ∷ 2 ∷ 2 ∷ 1 ∷ 2 ∷ [])
column_row IfType = read_only tag.Integer (1 ∷ 3 ∷ 6 ∷ 1 ∷ 2 ∷ 1 ∷ 2 ∷ 2 ∷ 1 ∷ 3 ∷ [])
column_row IfMtu = read_only tag.Integer (1 ∷ 3 ∷ 6 ∷ 1 ∷ 2 ∷ 1 ∷ 2 ∷ 2 ∷ 1 ∷ 4 ∷ [])
column_row IfSpeed = read_only tag.Gauge32 (1 ∷ 3 ∷ 6 ∷ 1 ∷ 2 ∷ 1 ∷ 2 ∷ 2 ∷ 1 ∷ 5 ∷ [])
column_row IfPhysAddress = read_only tag.OctetString (1 ∷ 3 ∷ 6 ∷ 1 ∷ 2 ∷ 1 ∷ 2 ∷ 2 ∷ 1 ∷ 6 ∷ [])
column_row IfAdminStatus = read_write tag.Integer (1 ∷ 3 ∷ 6 ∷ 1 ∷ 2 ∷ 1 ∷ 2 ∷ 2 ∷ 1 ∷ 7 ∷ [])
column_row IfOperStatus = read_only tag.Integer (1 ∷ 3 ∷ 6 ∷ 1 ∷ 2 ∷ 1 ∷ 2 ∷ 2 ∷ 1 ∷ 8 ∷ [])
column_row IfLastChange = read_only tag.TimeTicks (1 ∷ 3 ∷ 6 ∷ 1 ∷ 2 ∷ 1 ∷ 2 ∷ 2 ∷ 1 ∷ 9 ∷ [])
column_row IfInOctets = read_only tag.Counter32 (1 ∷ 3 ∷ 6 ∷ 1 ∷ 2 ∷ 1 ∷ 2 ∷ 2 ∷ 1 ∷ 10 ∷ [])
column_row IfInUcastPkts = read_only tag.Counter32 (1 ∷ 3 ∷ 6 ∷ 1 ∷ 2 ∷ 1 ∷ 2 ∷ 2 ∷ 1 ∷ 11 ∷ [])
column_row IfInDiscards = read_only tag.Counter32 (1 ∷ 3 ∷ 6 ∷ 1 ∷ 2 ∷ 1 ∷ 2 ∷ 2 ∷ 1 ∷ 13 ∷ [])
column_row IfInErrors = read_only tag.Counter32 (1 ∷ 3 ∷ 6 ∷ 1 ∷ 2 ∷ 1 ∷ 2 ∷ 2 ∷ 1 ∷ 14 ∷ [])
column_row IfInUnknownProtos = read_only tag.Counter32 (1 ∷ 3 ∷ 6 ∷ 1 ∷ 2 ∷ 1 ∷ 2 ∷ 2 ∷ 1 ∷ 15 ∷ [])
column_row IfOutOctets = read_only tag.Counter32 (1 ∷ 3 ∷ 6 ∷ 1 ∷ 2 ∷ 1 ∷ 2 ∷ 2 ∷ 1 ∷ 16 ∷ [])
column_row IfOutUcastPkts = read_only tag.Counter32 (1 ∷ 3 ∷ 6 ∷ 1 ∷ 2 ∷ 1 ∷ 2 ∷ 2 ∷ 1 ∷ 17 ∷ [])
column_row IfOutDiscards = read_only tag.Counter32 (1 ∷ 3 ∷ 6 ∷ 1 ∷ 2 ∷ 1 ∷ 2 ∷ 2 ∷ 1 ∷ 19 ∷ [])
column_row IfOutErrors = read_only tag.Counter32 (1 ∷ 3 ∷ 6 ∷ 1 ∷ 2 ∷ 1 ∷ 2 ∷ 2 ∷ 1 ∷ 20 ∷ [])
column_row IfName = read_only tag.OctetString (1 ∷ 3 ∷ 6 ∷ 1 ∷ 2 ∷ 1 ∷ 31 ∷ 1 ∷ 1 ∷ 1 ∷ 1 ∷ [])
column_row IfHcInOctets = read_only tag.Counter64 (1 ∷ 3 ∷ 6 ∷ 1 ∷ 2 ∷ 1 ∷ 31 ∷ 1 ∷ 1 ∷ 1 ∷ 6 ∷ [])
column_row IfHcInUcastPkts = read_only tag.Counter64 (1 ∷ 3 ∷ 6 ∷ 1 ∷ 2 ∷ 1 ∷ 31 ∷ 1 ∷ 1 ∷ 1 ∷ 7
    ∷ [])
column_row IfHcOutOctets = read_only tag.Counter64 (1 ∷ 3 ∷ 6 ∷ 1 ∷ 2 ∷ 1 ∷ 31 ∷ 1 ∷ 1 ∷ 1 ∷ 10
    ∷ [])
column_row IfHcOutUcastPkts = read_only tag.Counter64 (1 ∷ 3 ∷ 6 ∷ 1 ∷ 2 ∷ 1 ∷ 31 ∷ 1 ∷ 1 ∷ 1 ∷ 11
    ∷ [])
column_row IfHighSpeed = read_only tag.Gauge32 (1 ∷ 3 ∷ 6 ∷ 1 ∷ 2 ∷ 1 ∷ 31 ∷ 1 ∷ 1 ∷ 1 ∷ 15 ∷ [])
column_row IfAlias = read_write tag.OctetString (1 ∷ 3 ∷ 6 ∷ 1 ∷ 2 ∷ 1 ∷ 31 ∷ 1 ∷ 1 ∷ 1 ∷ 18 ∷ [])
column_row IfCounterDiscontinuityTime = read_only tag.TimeTicks
    (1 ∷ 3 ∷ 6 ∷ 1 ∷ 2 ∷ 1 ∷ 31 ∷ 1 ∷ 1 ∷ 1 ∷ 19 ∷ [])

-- what is given of an object
abbrev pub row_of : Object → Row
row_of (served.Scalar s) = scalar_row s
row_of (served.Column c) = column_row c

-- what each name of the object's variables begins with
unfoldable pub prefix_of : Object → List ℕ
prefix_of o = (row_of o).prefix

-- what may be done with its variables
abbrev pub max_access_of : Object → MaxAccess
max_access_of o = (row_of o).access

-- the tag of their values
abbrev pub syntax_of : Object → Tag
syntax_of o = (row_of o).syntax

-- all of them, in the order of their names
unfoldable pub objects : List Object
objects = served.Scalar SysDescr ∷
    served.Scalar SysObjectId ∷
    served.Scalar SysUpTime ∷
    served.Scalar SysContact ∷
    served.Scalar SysName ∷
    served.Scalar SysLocation ∷
    served.Scalar SysServices ∷
    served.Scalar IfNumber ∷
    served.Column IfIndex ∷
    served.Column IfDescr ∷
    served.Column IfType ∷
    served.Column IfMtu ∷
    served.Column IfSpeed ∷
    served.Column IfPhysAddress ∷
    served.Column IfAdminStatus ∷
    served.Column IfOperStatus ∷
    served.Column IfLastChange ∷
    served.Column IfInOctets ∷
    served.Column IfInUcastPkts ∷
    served.Column IfInDiscards ∷
    served.Column IfInErrors ∷
    served.Column IfInUnknownProtos ∷
    served.Column IfOutOctets ∷
    served.Column IfOutUcastPkts ∷
    served.Column IfOutDiscards ∷
    served.Column IfOutErrors ∷
    served.Scalar SnmpInPkts ∷
    served.Scalar SnmpInBadVersions ∷
    served.Scalar SnmpInBadCommunityNames ∷
    served.Scalar SnmpInAsnParseErrs ∷
    served.Scalar SnmpSilentDrops ∷
    served.Column IfName ∷
    served.Column IfHcInOctets ∷
    served.Column IfHcInUcastPkts ∷
    served.Column IfHcOutOctets ∷
    served.Column IfHcOutUcastPkts ∷
    served.Column IfHighSpeed ∷
    served.Column IfAlias ∷
    served.Column IfCounterDiscontinuityTime ∷
    served.Scalar SnmpEngineId ∷
    served.Scalar SnmpEngineBoots ∷
    served.Scalar SnmpEngineTime ∷
    served.Scalar SnmpEngineMaxMessageSize ∷ []

-- each object's names come before the names of all later ones
abbrev pub all_before : List Object → Bool
all_before [] = true
all_before (o ∷ os) = list_all (λ q. is_before (prefix_of o) (prefix_of q)) os && all_before os
