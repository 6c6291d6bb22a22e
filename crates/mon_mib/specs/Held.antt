-- What a device holds.
use Rattle.std.specs.Prelude.{ℕ, ◌<◌, ◌≤◌, ◌^◌, List, Option, Some, None, Contains, All, AllPairs}
use Rattle.mon_mib.specs.declared.admin_status.AdminStatus.{AdminStatus}
use Rattle.mon_mib.specs.declared.admin_status.AdminStatus.TheVariants as admin
use Rattle.mon_mib.specs.declared.oper_status.OperStatus.{OperStatus}
use Rattle.mon_mib.specs.declared.oper_status.OperStatus.TheVariants as oper
use Rattle.mon_mib.specs.declared.status.Status.{Status}
use Rattle.mon_mib.specs.declared.facts.Facts.{Facts}
use Rattle.mon_mib.specs.declared.facts.SysText.{SysText}
use Rattle.mon_mib.specs.declared.facts.IfText.{IfText}
use Rattle.mon_mib.specs.declared.facts.IfText.TheVariants.{Descr, Phys, ShortName, Alias}

-- The indexes of its interfaces, its texts, and of each interface its status, its alias, its other
-- texts, and its numbers at a time. Texts of the device, statuses and aliases can be changed.
pub record Held : Type 0 where
  pub indexes : List ℕ
  pub sys_text : SysText → List ℕ
  pub status : ℕ → Status
  pub alias : ℕ → List ℕ
  pub fixed_text : ℕ → IfText → List ℕ
  pub numbers : ℕ → ℕ → Facts

-- the status before any Set
abbrev pub at_start : Status
at_start = record { admin = admin.Up; since = 0 }

-- the operational status is the administrative one (ifOperStatus, RFC 2863 section 6)
abbrev pub oper_of : AdminStatus → OperStatus
oper_of admin.Up = oper.Up
oper_of admin.Down = oper.Down
oper_of admin.Testing = oper.Testing

-- the facts of an interface at a time
abbrev pub facts_at : Held → ℕ → ℕ → Facts
facts_at h i moment = record (h.numbers i moment) {
  admin = (h.status i).admin;
  oper = oper_of (h.status i).admin;
  last_change = (h.status i).since;
}

-- the texts of an interface
abbrev pub text_at : Held → ℕ → IfText → List ℕ
text_at h i Alias = h.alias i
text_at h i Descr = h.fixed_text i Descr
text_at h i Phys = h.fixed_text i Phys
text_at h i ShortName = h.fixed_text i ShortName

-- indexes rise strictly, from 1 to 2147483647 (InterfaceIndex, RFC 2863 section 6)
pub record AreIndexes (indexes : List ℕ) : Type 0 where
  pub rising : AllPairs (λ i j. i < j) indexes
  pub positive : All (λ i. 1 ≤ i) indexes
  pub small : All (λ i. i < 2 ^ 31) indexes

-- above a number if one is given, else any
abbrev pub IsAbove : Option ℕ → ℕ → Type 0
IsAbove None i = Unit {0}
IsAbove (Some after) i = after < i

-- the least of these numbers with P
abbrev pub IsLeastOf : List ℕ → (ℕ → Type 0) → Option ℕ → Type 0
IsLeastOf is P (Some i) = Contains is i × P i × ((j : ℕ) → Contains is j → P j → i ≤ j)
IsLeastOf is P None = (j : ℕ) → Contains is j → P j → ⊥
