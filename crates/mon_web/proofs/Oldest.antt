-- The client that waits longest, of those that may be closed for a newcomer: found from the first
-- place on.
use Rattle.std.proofs.Common.{◌≡◌, ◌≤◌, ℕ, List, Option, Some, None, true, false, length, sym, subst}
use Rattle.std.specs.Prelude.{slice_get}
use Rattle.std.specs.List.{AllWithin}
use Rattle.std.proofs.lemmas.List.Elements.{All-from_all_within}
use Rattle.mon_web.specs.declared.slot.Slot.{Slot}
use Rattle.mon_web.specs.Slot.{IsOldest, may_yield}

-- such a client waits since then or later
abbrev pub IsNotBefore : ℕ → ℕ → Slot → Type 0
IsNotBefore now since other = may_yield now other ≡ true → since ≤ other.since

-- what was found in the first n places, and since when that client waits
abbrev pub Best : ℕ → List Slot → ℕ → Option ℕ → ℕ → Type 0
Best now slots n None since = AllWithin (λ slot. may_yield now slot ≡ false) slots 0 n
Best now slots n (Some place) since = (slot : Slot) × (slice_get slots place ≡ Some slot) × (may_yield now slot ≡ true) × (slot.since ≡ since)
    × AllWithin (IsNotBefore now since) slots 0 n

-- the whole is searched
pub found : (now : ℕ) (slots : List Slot) (place : Option ℕ) (since : ℕ) → Best now slots (length slots) place since → IsOldest now slots place
found now slots None since h = All-from_all_within (λ slot. may_yield now slot ≡ false) slots h
found now slots (Some place) since (slot, at, yields, is, least) = (
  slot,
  at,
  yields,
  All-from_all_within (IsNotBefore now slot.since) slots
      (subst (λ s. AllWithin (IsNotBefore now s) slots 0 (length slots)) (sym is) least),
)
