-- The runs of a save's steps, and what is found after each.
use Rattle.std.proofs.Common.{ℕ, ◌≡◌, ◌<◌, ◌≤◌, ◌+◌, ◌++◌, ⊎_elim, List, length, take, drop, sym, subst, Option, Some, None}
use Rattle.mon_disk.specs.Disk.{Leaves, LeavesSince}
use Rattle.mon_disk.specs.File.{Saved, slot_of, held, save_of, found, FindsIn, FindsEither, HoldsEither, is_slot}
use Rattle.mon_disk.specs.Keeper.{shown_from}
use Rattle.mon_disk.specs.declared.file.Slot.{Slot}
use Rattle.mon_disk.proofs.Moments.{weaker, chained, at_end}
use Rattle.mon_disk.proofs.Saves.{IsNext, at_close, at_fill, at_show, in_closed, in_filled, not_yet, by_now}

pub early : (z least calls : ℕ) (old new : Option Saved) (file : List ℕ) → calls < least → FindsIn z old file → FindsIn z (shown_from least calls old new) file
early z least calls old new file less is = subst (λ o. FindsIn z o file) (sym (not_yet least calls old new less)) is

pub late : (z least calls : ℕ) (old new : Option Saved) (file : List ℕ) → least ≤ calls → FindsIn z new file → FindsIn z (shown_from least calls old new) file
late z least calls old new file done is = subst (λ o. FindsIn z o file) (sym (by_now least calls old new done)) is

module _ {D : Type 0} (moment : D → ℕ) (left_since : D → ℕ → List ℕ → Type 0) (may_leave : D → List ℕ → Type 0) where
  -- a slot that is filled stays closed
  pub stays_closed : (z : ℕ) (k : Slot) (f1 : List ℕ) (d1 d2 : D) → ((t : ℕ) (c : List ℕ) → t ≤ moment d2 → may_leave d2 c → left_since d2 t c)
      → LeavesSince moment left_since d1 d2 (HoldsEither z k f1 None None) → Leaves (may_leave d2) (λ c. held (slot_of z k c) ≡ None)
  stays_closed z k f1 d1 d2 counts run c left = let at = at_end moment left_since may_leave d1 d2 (HoldsEither z k f1 None None) counts run c left in ⊎_elim (λ a. a) (λ a. a) at.either

  module _ (z : ℕ) (some : 0 < z) (newest : Option (Slot × ℕ)) (file octets : List ℕ) (g : ℕ) (k : Slot) (is : IsNext z newest file octets g k) where
    abbrev Either : List ℕ → Type 0
    Either c = FindsEither z (found z file) (Some (save_of octets)) c

    pub run_close : (d0 d1 : D) → LeavesSince moment left_since d0 d1 (HoldsEither z k file None (held (slot_of z k file))) → LeavesSince moment left_since d0 d1 Either
    run_close d0 d1 run = weaker moment left_since d0 d1 (HoldsEither z k file None (held (slot_of z k file))) Either (at_close z some newest file octets g k is) run

    pub run_fill : (d0 d1 d2 : D) (f1 : List ℕ) → LeavesSince moment left_since d0 d1 Either → HoldsEither z k file None None f1 → LeavesSince moment left_since d1 d2 (HoldsEither z k f1 None None)
        → LeavesSince moment left_since d0 d2 Either
    run_fill d0 d1 d2 f1 so_far closed run = chained moment left_since d0 d1 d2 Either so_far
        (weaker moment left_since d1 d2 (HoldsEither z k f1 None None) Either (λ c. at_fill z some newest file octets g k is f1 c closed) run)

    pub run_show : (d0 d2 d3 : D) (f1 f2 : List ℕ) → LeavesSince moment left_since d0 d2 Either → HoldsEither z k file None None f1
        → is_slot z k f1 (take 1 (slot_of z k f1) ++ octets ++ drop (1 + length octets) (slot_of z k f1)) f2
        → LeavesSince moment left_since d2 d3 (HoldsEither z k f2 None (Some (save_of (drop 1 (slot_of z k f2))))) → LeavesSince moment left_since d0 d3 Either
    run_show d0 d2 d3 f1 f2 so_far closed filled run = chained moment left_since d0 d2 d3 Either so_far
        (weaker moment left_since d2 d3 (HoldsEither z k f2 None (Some (save_of (drop 1 (slot_of z k f2))))) Either (at_show z some newest file octets g k is f1 f2 closed filled) run)

    -- while the spare slot is closed, each file that a crash may leave is found as before
    pub closed_now : (d0 d1 : D) → ((t : ℕ) (c : List ℕ) → t ≤ moment d1 → may_leave d1 c → left_since d1 t c)
        → LeavesSince moment left_since d0 d1 (HoldsEither z k file None (held (slot_of z k file))) → Leaves (may_leave d1) (FindsIn z (found z file))
    closed_now d0 d1 counts run c left = in_closed z some newest file octets g k is c (at_end moment left_since may_leave d0 d1 (HoldsEither z k file None (held (slot_of z k file))) counts run c left)

    pub filled_now : (d1 d2 : D) (f1 : List ℕ) → ((t : ℕ) (c : List ℕ) → t ≤ moment d2 → may_leave d2 c → left_since d2 t c) → HoldsEither z k file None None f1
        → LeavesSince moment left_since d1 d2 (HoldsEither z k f1 None None) → Leaves (may_leave d2) (FindsIn z (found z file))
    filled_now d1 d2 f1 counts closed run c left = in_filled z some newest file octets g k is f1 c closed (at_end moment left_since may_leave d1 d2 (HoldsEither z k f1 None None) counts run c left)
