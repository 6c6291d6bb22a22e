-- How an insertion goes.
use Rattle.std.specs.Prelude.{◌≡◌, ◌<◌, ◌≤◌, ℕ, false, List, Some, None, length, insert}
use Rattle.std.specs.FinSet as set
use Rattle.std.specs.Ordering.{nat_cmp}
use Rattle.mon_sample.specs.Key.{boots_of}
use Rattle.mon_window.specs.declared.plan.Plan.{Plan}
use Rattle.mon_window.specs.declared.plan.Plan.TheVariants.{Known, TooOld, Joins, Replaces}
use Rattle.mon_window.specs.declared.window.Inserted.{Inserted}
use Rattle.mon_window.specs.declared.window.Inserted.TheVariants as did
use Rattle.mon_window.specs.Keep.{keep}
use Rattle.mon_window.specs.Leaving.{HasRoom, IsLeaving}
use Rattle.mon_window.specs.Place.{IsPlace}
use Rattle.mon_window.specs.Top.{rising}
use Rattle.mon_window.specs.Window.{Window, In}

-- the sample isn't there, and isn't kept
pub record IsTooOld (w : Window) (sample : ℕ) : Type 0 where
  pub absent : set.contains w.items sample ≡ false
  pub kept : w.items ≡ keep boots_of w.size w.epoch (set.insert w.items sample)

-- the sample belongs at the place, and the window is not full
pub record IsJoining (w : Window) (sample at : ℕ) : Type 0 where
  pub place : IsPlace nat_cmp (rising w.items) sample at
  pub room : HasRoom boots_of w.size w.epoch (boots_of sample) (rising w.items)

-- the sample belongs at the place, and what is at out, before it, leaves
pub record IsReplacing (w : Window) (sample at out : ℕ) : Type 0 where
  pub place : IsPlace nat_cmp (rising w.items) sample at
  pub leaving : IsLeaving boots_of w.size w.epoch (boots_of sample) (rising w.items) at out
  pub before : out < at

-- what an insertion of the sample will do
abbrev pub IsPlan : Window → ℕ → Plan → Type 0
IsPlan w sample Known = In sample w.items
IsPlan w sample TooOld = IsTooOld w sample
IsPlan w sample (Joins at) = IsJoining w sample at
IsPlan w sample (Replaces at out) = IsReplacing w sample at out

-- where one leaves, its place satisfies P
abbrev pub IfLeaving : Plan → (ℕ → Type 0) → Type 0
IfLeaving Known P = Unit {0}
IfLeaving TooOld P = Unit {0}
IfLeaving (Joins at) P = Unit {0}
IfLeaving (Replaces at out) P = P out

-- where the sample goes in, its place satisfies P
abbrev pub IfJoining : Plan → (ℕ → Type 0) → Type 0
IfJoining Known P = Unit {0}
IfJoining TooOld P = Unit {0}
IfJoining (Joins at) P = P at
IfJoining (Replaces at out) P = P at

-- the items with the sample at its place, where it goes in
abbrev pub with_sample : Plan → ℕ → List ℕ → List ℕ
with_sample Known sample xs = xs
with_sample TooOld sample xs = xs
with_sample (Joins at) sample xs = insert xs at sample
with_sample (Replaces at out) sample xs = insert xs at sample

-- the items with what was dropped at the place
abbrev pub dropped_at : ℕ → Inserted → List ℕ → List ℕ
dropped_at out (did.Added at None) xs = xs
dropped_at out (did.Added at (Some dropped)) xs = insert xs out dropped
dropped_at out did.Known xs = xs
dropped_at out did.TooOld xs = xs

-- the items with what was dropped at its old place
abbrev pub with_dropped : Plan → Inserted → List ℕ → List ℕ
with_dropped Known inserted xs = xs
with_dropped TooOld inserted xs = xs
with_dropped (Joins at) inserted xs = xs
with_dropped (Replaces at out) inserted xs = dropped_at out inserted xs

-- the new items, with what was dropped, are the old items with the sample
pub record IsDone (sample : ℕ) (plan : Plan) (inserted : Inserted) (old new : List ℕ) : Type 0 where
  pub place : IfLeaving plan (λ out. out ≤ length new)
  pub items : with_dropped plan inserted new ≡ with_sample plan sample old
