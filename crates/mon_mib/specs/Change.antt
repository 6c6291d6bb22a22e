-- Changes of what a device holds.
use Rattle.std.specs.Prelude.{ℕ, ◌+◌, ◌-◌, ◌^◌, min, Bool, true, false, List, Contains, nat_eq}
use Rattle.std.specs.Prelude.{if◌then◌else◌}
use Rattle.mon_mib.specs.declared.facts.SysText.{SysText}
use Rattle.mon_mib.specs.declared.facts.SysText.TheVariants.{Contact, SystemName, Location}
use Rattle.mon_mib.specs.declared.change.Change.{Change}
use Rattle.mon_mib.specs.declared.change.Change.TheVariants as set
use Rattle.mon_mib.specs.Held.{Held}

-- whether two texts of the system group are the same one
abbrev pub same_text : SysText → SysText → Bool
same_text Contact Contact = true
same_text Contact SystemName = false
same_text Contact Location = false
same_text SystemName Contact = false
same_text SystemName SystemName = true
same_text SystemName Location = false
same_text Location Contact = false
same_text Location SystemName = false
same_text Location Location = true

-- at one place this value, and all else as before
abbrev pub put : {K V : Type 0} → (K → K → Bool) → K → V → (K → V) → K → V
put same key value before other = if same key other then value else before other

-- the change is made, and all else is as before
abbrev pub changed : Change → Held → Held
changed (set.SysText which text) h = record h { sys_text = put same_text which text h.sys_text }
changed (set.Admin index status since) h = record h {
  status = put nat_eq index
      (record { admin = status; since = since }) h.status;
}
changed (set.Alias index text) h = record h { alias = put nat_eq index text h.alias }

-- the change that undoes a change: the same thing becomes what it was before
abbrev pub undoing : Change → Held → Change
undoing (set.SysText which text) h = set.SysText which (h.sys_text which)
undoing (set.Admin index status since) h = set.Admin index (h.status index).admin
    (h.status index).since
undoing (set.Alias index text) h = set.Alias index (h.alias index)

-- whether both change the same thing
abbrev pub same_target : Change → Change → Bool
same_target (set.SysText a text) (set.SysText b other) = same_text a b
same_target (set.SysText a text) (set.Admin j t m) = false
same_target (set.SysText a text) (set.Alias j other) = false
same_target (set.Admin i s n) (set.SysText b other) = false
same_target (set.Admin i s n) (set.Admin j t m) = nat_eq i j
same_target (set.Admin i s n) (set.Alias j other) = false
same_target (set.Alias i text) (set.SysText b other) = false
same_target (set.Alias i text) (set.Admin j t m) = false
same_target (set.Alias i text) (set.Alias j other) = nat_eq i j

-- the interface whose status or alias is changed is one of these
abbrev pub IsOf : List ℕ → Change → Type 0
IsOf indexes (set.SysText which text) = Unit {0}
IsOf indexes (set.Admin index status since) = Contains indexes index
IsOf indexes (set.Alias index text) = Contains indexes index

-- a count of failures after one more: it stays at 2^64 - 1
abbrev pub one_failure : ℕ → ℕ
one_failure count = min (count + 1) (2 ^ 64 - 1)

-- two counts of failures together
abbrev pub all_failures : ℕ → ℕ → ℕ
all_failures some others = min (some + others) (2 ^ 64 - 1)
