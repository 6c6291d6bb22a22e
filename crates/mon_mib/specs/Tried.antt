-- What is found of a value for an object, before it is known of which name.
use Rattle.std.specs.Prelude.{◌≡◌, ◌≢◌, ℕ, ◌+◌, ◌<◌, ◌≤◌, List, [], ◌∷◌, length, take, Contains}
use Rattle.std.specs.Prelude.{All, AllPairs, Option, Some, None, Result, Ok, Err}
use Rattle.mon_ber.specs.declared.value.Value.{Value}
use Rattle.mon_ber.specs.declared.value.Value.TheVariants as ber
use Rattle.mon_ber.specs.declared.tag.Tag.TheVariants as tag
use Rattle.mon_ber.specs.Grammar.{tag_of}
use Rattle.mon_pdu.specs.declared.message.Binding.{Binding}
use Rattle.mon_mib.specs.declared.admin_status.AdminStatus.{AdminStatus}
use Rattle.mon_mib.specs.declared.change.Change.{Change}
use Rattle.mon_mib.specs.declared.facts.SysText.TheVariants.{Contact, SystemName, Location}
use Rattle.mon_mib.specs.declared.scalar.Scalar.TheVariants.{SysContact, SysName, SysLocation}
use Rattle.mon_mib.specs.declared.column.Column.TheVariants.{IfAdminStatus, IfAlias}
use Rattle.mon_mib.specs.declared.object.Object.{Object}
use Rattle.mon_mib.specs.declared.object.Object.TheVariants as served
use Rattle.mon_mib.specs.declared.set_status.SetStatus.{SetStatus}
use Rattle.mon_mib.specs.declared.set_status.SetStatus.TheVariants.{NoAccess, WrongType}
use Rattle.mon_mib.specs.declared.set_status.SetStatus.TheVariants.{WrongLength, WrongValue}
use Rattle.mon_mib.specs.declared.set_status.SetStatus.TheVariants.{NoCreation, NotWritable}
use Rattle.mon_mib.specs.declared.binding_fault.BindingFault.{BindingFault}
use Rattle.mon_mib.specs.declared.binding_fault.BindingFault.TheVariants.{OutOfMemory, Refused}
use Rattle.mon_mib.specs.declared.set_fault.SetFault.{SetFault}
use Rattle.mon_mib.specs.declared.set_fault.SetFault.TheVariants as fault
use Rattle.mon_mib.specs.declared.planned_change.PlannedChange.{PlannedChange}
use Rattle.mon_mib.specs.declared.writable.Writable.{Writable}
use Rattle.mon_mib.specs.declared.writable.Writable.TheVariants as writable
use Rattle.mon_mib.specs.Objects.{syntax_of}
use Rattle.mon_mib.specs.Assignment.{IsChange, IsAskedChange, IsLast, IsNumberedAssignment}
use Rattle.mon_mib.specs.Assignment.{scalar_of}
use Rattle.mon_mib.specs.Known.{Known, instances}
use Rattle.mon_mib.specs.Refusal.{longest, octet_count, IsNoStatus, IsAccepted, IsBindingRefused}
use Rattle.mon_mib.specs.Refusal.{order}
use Rattle.mon_mib.specs.Status.{admin_number}

-- the object that a Set may change
abbrev pub object_of : Writable → Object
object_of (writable.SysText which) = served.Scalar (scalar_of which)
object_of writable.AdminStatus = served.Column IfAdminStatus
object_of writable.Alias = served.Column IfAlias

-- which one an object is, if it is one
abbrev pub writable_of : Object → Option Writable
writable_of (served.Scalar SysContact) = Some (writable.SysText Contact)
writable_of (served.Scalar SysName) = Some (writable.SysText SystemName)
writable_of (served.Scalar SysLocation) = Some (writable.SysText Location)
writable_of (served.Scalar other) = None
writable_of (served.Column IfAdminStatus) = Some writable.AdminStatus
writable_of (served.Column IfAlias) = Some writable.Alias
writable_of (served.Column other) = None

-- why a value is no text of at most this many octets
abbrev pub IsBadText : Value → ℕ → SetStatus → Type 0
IsBadText v most WrongType = tag_of v ≢ tag.OctetString
IsBadText v most WrongLength = (text : List ℕ) × (v ≡ ber.Octets text) × (most < length text)
IsBadText v most other = ⊥

-- why a value is no administrative status
abbrev pub IsBadStatus : Value → SetStatus → Type 0
IsBadStatus v WrongType = tag_of v ≢ tag.Integer
IsBadStatus v WrongValue = (tag_of v ≡ tag.Integer) × ((s : AdminStatus)
    → v ≢ ber.Integer (admin_number s))
IsBadStatus v other = ⊥

-- what each refusal says of a value of an object, for the name with these numbers after the
-- object's own
abbrev pub IsGroundAt : Known → Object → List ℕ → Value → SetStatus → Type 0
IsGroundAt k o rest v NoAccess = ⊥
IsGroundAt k o rest v NotWritable = ⊥
IsGroundAt k o rest v WrongType = tag_of v ≢ syntax_of o
IsGroundAt k o rest v WrongLength = longest o < octet_count v
IsGroundAt k o rest v WrongValue = IsNoStatus o v
IsGroundAt k o rest v NoCreation = (i : ℕ) → rest ≡ i ∷ [] → Contains (instances k.held o) i → ⊥

-- the first of them
pub record IsRefusedAt (k : Known) (o : Object) (rest : List ℕ) (v : Value) (r : SetStatus) : Type 0
  where
    pub ground : IsGroundAt k o rest v r
    pub first : (q : SetStatus) → order q < order r → ¬ (IsGroundAt k o rest v q)

-- none, and the change
pub record IsMade (k : Known) (o : Object) (rest : List ℕ) (v : Value) (c : Change) : Type 0 where
  pub accepted : (q : SetStatus) → ¬ (IsGroundAt k o rest v q)
  pub instance : ℕ
  pub only : rest ≡ instance ∷ []
  pub there : Contains (instances k.held o) instance
  pub is : IsChange k o instance v c

-- what one variable binding of a Set gives: its change, or by what ground it is refused
abbrev pub IsTried : Known → Object → List ℕ → Value → Result Change BindingFault → Type 0
IsTried k o rest v (Ok c) = IsMade k o rest v c
IsTried k o rest v (Err OutOfMemory) = Unit {0}
IsTried k o rest v (Err (Refused r)) = IsRefusedAt k o rest v r

-- whether a binding is accepted, and what it changes, or why it is refused
abbrev pub IsJudged : Known → (List ℕ → Type 0) → Binding → Result Change BindingFault → Type 0
IsJudged k sees b (Ok c) = IsAccepted k sees b × IsAskedChange k b c
IsJudged k sees b (Err OutOfMemory) = Unit {0}
IsJudged k sees b (Err (Refused r)) = IsBindingRefused k sees b r

-- the fault of the binding of a number
abbrev pub fault_at : BindingFault → ℕ → SetFault
fault_at OutOfMemory index = fault.OutOfMemory
fault_at (Refused status) index = fault.Refused status index

-- what is so after the bindings before a place
pub record IsPlannedTo (k : Known) (sees : List ℕ → Type 0) (bindings : List Binding) (n : ℕ)
    (steps : List PlannedChange) : Type 0 where
  pub accepted : All (IsAccepted k sees) (take n bindings)
  pub below : All (λ s. s.index ≤ n) steps
  pub rising : AllPairs (λ s t. s.index < t.index) steps
  pub each : All (IsNumberedAssignment k bindings) steps
  pub all : (j : ℕ) (b : Binding) → j < n → IsLast bindings j b
      → (s : PlannedChange) × Contains steps s × (s.index ≡ j + 1)
