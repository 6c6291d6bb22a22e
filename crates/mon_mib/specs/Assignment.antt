-- What the bindings of a Set change (RFC 3416 section 4.2.5).
use Rattle.std.specs.Prelude.{◌≡◌, ◌≢◌, ℕ, ◌+◌, ◌<◌, List, [], ◌∷◌, ◌++◌, length, drop}
use Rattle.std.specs.Prelude.{slice_index_or, Contains, All, AllPairs, Any, false}
use Rattle.mon_ber.specs.declared.value.Value.{Value}
use Rattle.mon_ber.specs.declared.value.Value.TheVariants as ber
use Rattle.mon_pdu.specs.declared.message.Binding.{Binding}
use Rattle.mon_mib.specs.declared.change.Change.{Change}
use Rattle.mon_mib.specs.declared.change.Change.TheVariants as set
use Rattle.mon_mib.specs.declared.facts.SysText.{SysText}
use Rattle.mon_mib.specs.declared.facts.SysText.TheVariants.{Contact, SystemName, Location}
use Rattle.mon_mib.specs.declared.scalar.Scalar.{Scalar}
use Rattle.mon_mib.specs.declared.scalar.Scalar.TheVariants.{SysContact, SysName, SysLocation}
use Rattle.mon_mib.specs.declared.column.Column.TheVariants.{IfAdminStatus, IfAlias}
use Rattle.mon_mib.specs.declared.object.Object.{Object}
use Rattle.mon_mib.specs.declared.object.Object.TheVariants as served
use Rattle.mon_mib.specs.declared.planned_change.PlannedChange.{PlannedChange}
use Rattle.mon_mib.specs.Change.{same_target}
use Rattle.mon_mib.specs.Objects.{prefix_of, objects}
use Rattle.mon_mib.specs.Known.{Known, instances}
use Rattle.mon_mib.specs.Moment.{up_time}
use Rattle.mon_mib.specs.Status.{admin_number}

-- the object of a text of the device
abbrev pub scalar_of : SysText → Scalar
scalar_of Contact = SysContact
scalar_of SystemName = SysName
scalar_of Location = SysLocation

-- The change that a value asks for, of the object's variable of an instance. Where the status
-- stays, so does the time of its change (ifLastChange, RFC 2863 section 6).
abbrev pub IsChange : Known → Object → ℕ → Value → Change → Type 0
IsChange k o i v (set.SysText which text) = (o ≡ served.Scalar (scalar_of which))
    × (v ≡ ber.Octets text)
IsChange k o i v (set.Admin index status since) = (o ≡ served.Column IfAdminStatus) × (index ≡ i)
    × (v ≡ ber.Integer (admin_number status))
    × ((k.held.status i).admin ≡ status → since ≡ (k.held.status i).since)
    × ((k.held.status i).admin ≢ status → since ≡ up_time k.moment)
IsChange k o i v (set.Alias index text) = (o ≡ served.Column IfAlias) × (index ≡ i)
    × (v ≡ ber.Octets text)

-- the change that a binding asks for, whose name is a variable's
pub record IsAskedChange (k : Known) (b : Binding) (c : Change) : Type 0 where
  pub object : Object
  pub instance : ℕ
  pub served : Contains objects object
  pub there : Contains (instances k.held object) instance
  pub named : b.name ≡ prefix_of object ++ instance ∷ []
  pub is : IsChange k object instance b.value c

-- a binding, at its place, that no later one of its name follows
pub record IsLast (bindings : List Binding) (j : ℕ) (b : Binding) : Type 0 where
  pub within : j < length bindings
  pub is : slice_index_or bindings j b ≡ b
  pub last : ¬ (Any (λ c. c.name ≡ b.name) (drop (j + 1) bindings))

-- the assignment of such a binding, with the binding's number, counted from 1
pub record IsNumberedAssignment (k : Known) (bindings : List Binding) (s : PlannedChange) : Type 0
  where
    pub place : ℕ
    pub binding : Binding
    pub last : IsLast bindings place binding
    pub number : s.index ≡ place + 1
    pub assigns : IsAskedChange k binding s.change

-- the assignments of all of them, in their order
pub record IsSetPlan (k : Known) (bindings : List Binding) (steps : List PlannedChange) : Type 0
  where
    pub rising : AllPairs (λ s t. s.index < t.index) steps
    pub each : All (IsNumberedAssignment k bindings) steps
    pub all : (j : ℕ) (b : Binding) → IsLast bindings j b → (s : PlannedChange) × Contains steps s
        × (s.index ≡ j + 1)

-- no two change the same thing
abbrev pub AreApart : List PlannedChange → Type 0
AreApart steps = AllPairs (λ s t. same_target s.change t.change ≡ false) steps
