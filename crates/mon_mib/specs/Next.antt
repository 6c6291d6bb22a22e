-- The variable at a name, and the one that follows a name.
use Rattle.std.specs.Prelude.{◌≡◌, ◌≢◌, ℕ, List, ◌++◌, Option, Some, None, Contains}
use Rattle.std.specs.declared.cmp.Ordering.TheVariants.{Less}
use Rattle.mon_mib.specs.Order.{name_cmp}
use Rattle.mon_pdu.specs.declared.message.Binding.{Binding}
use Rattle.mon_mib.specs.declared.object.Object.{Object}
use Rattle.mon_mib.specs.declared.got.Got.{Got}
use Rattle.mon_mib.specs.declared.got.Got.TheVariants.{Found, NoObject, NoInstance}
use Rattle.mon_mib.specs.Objects.{prefix_of, objects}
use Rattle.mon_mib.specs.Known.{Known, instances, variable}

-- one of the variables of these objects
pub record IsVariable (os : List Object) (k : Known) (b : Binding) : Type 0 where
  pub object : Object
  pub instance : ℕ
  pub served : Contains os object
  pub there : Contains (instances k.held object) instance
  pub is : b ≡ variable k object instance

-- in view, and beyond the name
pub record IsLater (sees : List ℕ → Type 0) (x : List ℕ) (b : Binding) : Type 0 where
  pub beyond : name_cmp x b.name ≡ Less
  pub in_view : sees b.name

-- the least of the variables in view that are beyond the name
pub record IsLeast (os : List Object) (k : Known) (sees : List ℕ → Type 0) (x : List ℕ)
    (b : Binding) : Type 0 where
  pub variable : IsVariable os k b
  pub later : IsLater sees x b
  pub least : (c : Binding) → IsVariable os k c → IsLater sees x c → name_cmp c.name b.name ≢ Less

-- what follows a name: the least of those variables, or that there is none (RFC 3416 section 4.2.2)
abbrev pub IsNext : List Object → Known → (List ℕ → Type 0) → List ℕ → Option Binding → Type 0
IsNext os k sees x (Some b) = IsLeast os k sees x b
IsNext os k sees x None = (c : Binding) → IsVariable os k c → IsLater sees x c → ⊥

-- the name is an object's own, or an object's own with numbers after it
abbrev pub IsUnder : Object → List ℕ → Type 0
IsUnder o x = (rest : List ℕ) × (x ≡ prefix_of o ++ rest)

-- the name is under one of the served objects
pub record IsServedName (x : List ℕ) : Type 0 where
  pub object : Object
  pub listed : Contains objects object
  pub under : IsUnder object x

-- the value at a name, or which exception there is (RFC 3416 section 4.2.1)
abbrev pub IsGot : Known → List ℕ → Got → Type 0
IsGot k x (Found v) = IsVariable objects k (record { name = x; value = v })
IsGot k x NoInstance = IsServedName x × ((b : Binding) → IsVariable objects k b → b.name ≢ x)
IsGot k x NoObject = ¬ (IsServedName x)
