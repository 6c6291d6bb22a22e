-- Which objects a Set may change.
use Rattle.std.proofs.Common.{◌≡◌, ◌≢◌, ℕ, List, ◌++◌, refl, sym, ◌∙◌, ap, subst}
use Rattle.std.specs.Prelude.{Option, Some, None, IfNone, Contains}
use Rattle.mon_mib.specs.declared.max_access.MaxAccess.TheVariants.{ReadWrite, ReadOnly}
use Rattle.mon_mib.specs.declared.scalar.Scalar.{Scalar}
use Rattle.mon_mib.specs.declared.scalar.Scalar.TheVariants.{SysDescr, SysObjectId, SysUpTime, SysContact, SysName, SysLocation, SysServices, IfNumber, SnmpInPkts, SnmpInBadVersions, SnmpInBadCommunityNames, SnmpInAsnParseErrs, SnmpSilentDrops, SnmpEngineId, SnmpEngineBoots, SnmpEngineTime, SnmpEngineMaxMessageSize}
use Rattle.mon_mib.specs.declared.column.Column.{Column}
use Rattle.mon_mib.specs.declared.column.Column.TheVariants.{IfIndex, IfDescr, IfType, IfMtu, IfSpeed, IfPhysAddress, IfAdminStatus, IfOperStatus, IfLastChange, IfInOctets, IfInUcastPkts, IfInDiscards, IfInErrors, IfInUnknownProtos, IfOutOctets, IfOutUcastPkts, IfOutDiscards, IfOutErrors, IfName, IfHcInOctets, IfHcInUcastPkts, IfHcOutOctets, IfHcOutUcastPkts, IfHighSpeed, IfAlias, IfCounterDiscontinuityTime}
use Rattle.mon_mib.specs.declared.object.Object.{Object}
use Rattle.mon_mib.specs.declared.object.Object.TheVariants as served
use Rattle.mon_mib.specs.declared.writable.Writable.{Writable}
use Rattle.mon_mib.specs.Objects.{prefix_of, objects, max_access_of}
use Rattle.mon_mib.specs.Refusal.{IsWritable}
use Rattle.mon_mib.specs.Tried.{object_of, writable_of}
use Rattle.mon_mib.proofs.Unique.{one_object}

abbrev Agrees : Object → Option Writable → Type 0
Agrees o (Some w) = (o ≡ object_of w) × (max_access_of o ≡ ReadWrite)
Agrees o None = max_access_of o ≡ ReadOnly

scalar_agrees : (s : Scalar) → Agrees (served.Scalar s) (writable_of (served.Scalar s))
scalar_agrees SysDescr = refl
scalar_agrees SysObjectId = refl
scalar_agrees SysUpTime = refl
scalar_agrees SysContact = (refl, refl)
scalar_agrees SysName = (refl, refl)
scalar_agrees SysLocation = (refl, refl)
scalar_agrees SysServices = refl
scalar_agrees IfNumber = refl
scalar_agrees SnmpInPkts = refl
scalar_agrees SnmpInBadVersions = refl
scalar_agrees SnmpInBadCommunityNames = refl
scalar_agrees SnmpInAsnParseErrs = refl
scalar_agrees SnmpSilentDrops = refl
scalar_agrees SnmpEngineId = refl
scalar_agrees SnmpEngineBoots = refl
scalar_agrees SnmpEngineTime = refl
scalar_agrees SnmpEngineMaxMessageSize = refl

column_agrees : (c : Column) → Agrees (served.Column c) (writable_of (served.Column c))
column_agrees IfIndex = refl
column_agrees IfDescr = refl
column_agrees IfType = refl
column_agrees IfMtu = refl
column_agrees IfSpeed = refl
column_agrees IfPhysAddress = refl
column_agrees IfAdminStatus = (refl, refl)
column_agrees IfOperStatus = refl
column_agrees IfLastChange = refl
column_agrees IfInOctets = refl
column_agrees IfInUcastPkts = refl
column_agrees IfInDiscards = refl
column_agrees IfInErrors = refl
column_agrees IfInUnknownProtos = refl
column_agrees IfOutOctets = refl
column_agrees IfOutUcastPkts = refl
column_agrees IfOutDiscards = refl
column_agrees IfOutErrors = refl
column_agrees IfName = refl
column_agrees IfHcInOctets = refl
column_agrees IfHcInUcastPkts = refl
column_agrees IfHcOutOctets = refl
column_agrees IfHcOutUcastPkts = refl
column_agrees IfHighSpeed = refl
column_agrees IfAlias = (refl, refl)
column_agrees IfCounterDiscontinuityTime = refl

pub agrees : (o : Object) → Agrees o (writable_of o)
agrees (served.Scalar s) = scalar_agrees s
agrees (served.Column c) = column_agrees c

never : ReadOnly ≢ ReadWrite
never e = cc

-- it is under one, and under no other
pub under_one : (x rest : List ℕ) (o : Object) (w : Writable) → Contains objects o → x ≡ prefix_of o ++ rest → writable_of o ≡ Some w
    → (x ≡ prefix_of (object_of w) ++ rest) × IsWritable x (object_of w)
under_one x rest o w listed named is =
    let both : (o ≡ object_of w) × (max_access_of o ≡ ReadWrite) = subst (Agrees o) is (agrees o) in
    let there : x ≡ prefix_of (object_of w) ++ rest = named ∙ ap (λ q. prefix_of q ++ rest) both.0 in
    (there, record { listed = subst (Contains objects) both.0 listed; under = (rest, there); access = subst (λ q. max_access_of q ≡ ReadWrite) both.0 both.1 })

pub under_none : (x rest : List ℕ) (o q : Object) → Contains objects o → x ≡ prefix_of o ++ rest → writable_of o ≡ None → IsWritable x q → ⊥
under_none x rest o q listed named is writable =
    let same : o ≡ q = one_object o q listed writable.listed rest writable.under.0 (sym named ∙ writable.under.1) in
    let closed : max_access_of o ≡ ReadOnly = subst (Agrees o) is (agrees o) in
    never (sym closed ∙ (ap max_access_of same ∙ writable.access))

pub if_none : {A : Type 0} {P : Type 0} (r : Option A) → P → IfNone r P
if_none None p = p
if_none (Some a) p = tt
