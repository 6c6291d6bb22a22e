-- Which bindings a Set refuses, and why (RFC 3416 section 4.2.5).
use Rattle.std.specs.Prelude.{◌≡◌, ◌≢◌, ℕ, ◌+◌, ◌<◌, List, length, take, slice_index_or, Contains}
use Rattle.std.specs.Prelude.{All}
use Rattle.mon_ber.specs.declared.value.Value.{Value}
use Rattle.mon_ber.specs.declared.value.Value.TheVariants as ber
use Rattle.mon_ber.specs.Grammar.{tag_of}
use Rattle.mon_pdu.specs.declared.message.Binding.{Binding}
use Rattle.mon_mib.specs.declared.admin_status.AdminStatus.{AdminStatus}
use Rattle.mon_mib.specs.declared.max_access.MaxAccess.TheVariants.{ReadWrite}
use Rattle.mon_mib.specs.declared.column.Column.TheVariants.{IfAdminStatus, IfAlias}
use Rattle.mon_mib.specs.declared.object.Object.{Object}
use Rattle.mon_mib.specs.declared.object.Object.TheVariants as served
use Rattle.mon_mib.specs.declared.set_status.SetStatus.{SetStatus}
use Rattle.mon_mib.specs.declared.set_status.SetStatus.TheVariants.{NoAccess, WrongType}
use Rattle.mon_mib.specs.declared.set_status.SetStatus.TheVariants.{WrongLength, WrongValue}
use Rattle.mon_mib.specs.declared.set_status.SetStatus.TheVariants.{NoCreation, NotWritable}
use Rattle.mon_mib.specs.declared.set_fault.SetFault.{SetFault}
use Rattle.mon_mib.specs.declared.set_fault.SetFault.TheVariants.{OutOfMemory, Refused}
use Rattle.mon_mib.specs.Objects.{objects, max_access_of, syntax_of}
use Rattle.mon_mib.specs.Known.{Known}
use Rattle.mon_mib.specs.Next.{IsVariable, IsUnder}
use Rattle.mon_mib.specs.Status.{admin_number}

-- the name is under this served object, which a Set may change (MAX-ACCESS, RFC 2578 section 7.3)
pub record IsWritable (x : List ℕ) (o : Object) : Type 0 where
  pub listed : Contains objects o
  pub under : IsUnder o x
  pub access : max_access_of o ≡ ReadWrite

-- the most octets of an object's texts: 64 of ifAlias (RFC 2863 section 6), 255 of the system
-- group's (RFC 3418 section 2)
abbrev pub longest : Object → ℕ
longest (served.Scalar s) = 255
longest (served.Column IfAlias) = 64
longest (served.Column other) = 255

-- the octets of a text
abbrev pub octet_count : Value → ℕ
octet_count (ber.Octets text) = length text
octet_count other = 0

-- a number that is no administrative status
pub record IsNoStatus (o : Object) (v : Value) : Type 0 where
  pub object : o ≡ served.Column IfAdminStatus
  pub value : (s : AdminStatus) → v ≢ ber.Integer (admin_number s)

-- what each refusal says of a binding
abbrev pub IsGround : Known → (List ℕ → Type 0) → Binding → SetStatus → Type 0
IsGround k sees b NoAccess = ¬ (sees b.name)
IsGround k sees b NotWritable = (o : Object) → IsWritable b.name o → ⊥
IsGround k sees b WrongType = (o : Object) × IsWritable b.name o × (tag_of b.value ≢ syntax_of o)
IsGround k sees b WrongLength = (o : Object) × IsWritable b.name o
    × (longest o < octet_count b.value)
IsGround k sees b WrongValue = (o : Object) × IsWritable b.name o × IsNoStatus o b.value
IsGround k sees b NoCreation = (c : Binding) → IsVariable objects k c → c.name ≢ b.name

-- the order in which they are looked for
abbrev pub order : SetStatus → ℕ
order NoAccess = 0
order NotWritable = 1
order WrongType = 2
order WrongLength = 3
order WrongValue = 4
order NoCreation = 5

-- the binding is refused for this, the first that holds
pub record IsBindingRefused (k : Known) (sees : List ℕ → Type 0) (b : Binding) (r : SetStatus) :
    Type 0 where
  pub ground : IsGround k sees b r
  pub first : (q : SetStatus) → order q < order r → ¬ (IsGround k sees b q)

-- it is refused for nothing
abbrev pub IsAccepted : Known → (List ℕ → Type 0) → Binding → Type 0
IsAccepted k sees b = (r : SetStatus) → ¬ (IsGround k sees b r)

-- The first binding that is refused, by its number counted from 1, and why. Memory may be refused
-- before that is known.
pub record IsFirstRefused (k : Known) (sees : List ℕ → Type 0) (bindings : List Binding)
    (status : SetStatus) (index : ℕ) : Type 0 where
  pub place : ℕ
  pub binding : Binding
  pub within : place < length bindings
  pub at : slice_index_or bindings place binding ≡ binding
  pub number : index ≡ place + 1
  pub refused : IsBindingRefused k sees binding status
  pub before : All (IsAccepted k sees) (take place bindings)

-- the fault of a Set: out of memory, or the first refusal
abbrev pub IsSetFault : Known → (List ℕ → Type 0) → List Binding → SetFault → Type 0
IsSetFault k sees bindings OutOfMemory = Unit {0}
IsSetFault k sees bindings (Refused status index) = IsFirstRefused k sees bindings status index
