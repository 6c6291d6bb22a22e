-- The places for connections: who is late, and whose place a newcomer gets.
use Rattle.std.specs.Prelude.{◌≡◌, ℕ, ◌+◌, ◌-◌, ◌≤◌, ◌⊎◌, Bool, true, false, List, Option, Some}
use Rattle.std.specs.Prelude.{None, All, length, slice_get, slice_set, ◌==◌, nat_le, if◌then◌else◌}
use Rattle.std.specs.List.{list_all, position}
use Rattle.mon_web.specs.declared.slot.Slot.{Slot}
use Rattle.mon_web.specs.declared.slot.Stage.{Stage}
use Rattle.mon_web.specs.declared.slot.Stage.TheVariants.{Free, Asking, Idle, Sending, Closing}
use Rattle.mon_web.specs.declared.client.Turn.{Turn}
use Rattle.mon_web.specs.declared.client.Turn.TheVariants.{Waits, GoesOn, Begins, Ends}

-- how long a client may stay in a stage, in milliseconds
abbrev pub limit_of : Stage → Option ℕ
limit_of Free = None
limit_of Asking = Some 10000
limit_of Idle = Some 10000
limit_of Sending = Some 10000
limit_of Closing = Some 2000

-- this long after its start
abbrev pub IsOver : Option ℕ → ℕ → ℕ → Type 0
IsOver None since now = ⊥
IsOver (Some limit) since now = since + limit ≤ now

-- a client has been in its stage for as long as it may
abbrev pub IsLate : ℕ → Slot → Type 0
IsLate now slot = IsOver (limit_of slot.stage) slot.since now

-- a place without a client
abbrev pub is_free : Stage → Bool
is_free Free = true
is_free _ = false

-- 100 milliseconds or more after its start
abbrev pub is_spent : ℕ → ℕ → Bool
is_spent now since = nat_le 100 (now - since)

-- a client may be closed for a newcomer in this stage since then
abbrev pub yields : Stage → ℕ → ℕ → Bool
yields Idle now since = true
yields Asking now since = is_spent now since
yields Closing now since = is_spent now since
yields _ now since = false

-- a client may be closed for a newcomer: nothing can be done for it at once, and it is in such a
-- stage
abbrev pub may_yield : ℕ → Slot → Bool
may_yield now slot = if slot.is_ready then false else yields slot.stage now slot.since

-- the place is that of a client that waits longest, of those that may be closed for a newcomer; or
-- there is none
abbrev pub IsOldest : ℕ → List Slot → Option ℕ → Type 0
IsOldest now slots None = All (λ slot. may_yield now slot ≡ false) slots
IsOldest now slots (Some place) = (slot : Slot) × (slice_get slots place ≡ Some slot)
    × (may_yield now slot ≡ true)
    × All (λ other. may_yield now other ≡ true → slot.since ≤ other.since) slots

-- a newcomer gets this place: it is the first that is free; or none is, and it is the oldest's
abbrev pub IsChosen : ℕ → List Slot → ℕ → Type 0
IsChosen now slots place = (position (λ slot. is_free slot.stage) slots ≡ Some place)
    ⊎ ((position (λ slot. is_free slot.stage) slots ≡ None) × IsOldest now slots (Some place))

-- no place is free, and no client may be closed for a newcomer
abbrev pub NoneFits : ℕ → List Slot → Type 0
NoneFits now slots = (position (λ slot. is_free slot.stage) slots ≡ None) × IsOldest now slots None

-- a place without a client
abbrev pub free_slot : Slot
free_slot = record { stage = Free; since = 0; is_ready = false }

-- the place of a client whose stage begins now
abbrev pub slot_in : Stage → ℕ → Slot
slot_in stage now = record { stage = stage; since = now; is_ready = true }

-- the places where this one is marked, if it is there: something may be done for its client at
-- once, or not
abbrev pub mark_at : Option Slot → ℕ → Bool → List Slot → List Slot
mark_at None place ready slots = slots
mark_at (Some slot) place ready slots = slice_set slots place (record slot { is_ready = ready })

-- the places where this one is marked
abbrev pub marked : ℕ → Bool → List Slot → List Slot
marked place ready slots = mark_at (slice_get slots place) place ready slots

-- the places after a mark by the number of an event: 32 is the listener's
abbrev pub marked_by : ℕ → Bool → List Slot → List Slot
marked_by number ready slots = if number == 32 then slots else marked number ready slots

-- whether a newcomer may be let in, after a mark by the number of an event
abbrev pub has_newcomer_by : ℕ → Bool → Bool → Bool
has_newcomer_by number ready had = if number == 32 then ready else had

-- What a client's turn does to the places: its own is marked as not ready, begins a stage now, or
-- is freed. The others stay.
abbrev pub settled : Turn → ℕ → ℕ → List Slot → List Slot
settled Waits place now slots = marked place false slots
settled GoesOn place now slots = slots
settled (Begins stage) place now slots = slice_set slots place (slot_in stage now)
settled Ends place now slots = slice_set slots place free_slot

-- something was done in a turn
abbrev pub has_done : Turn → Bool
has_done Waits = false
has_done _ = true

-- A newcomer got this place and asks since now; or there was no memory for it, and the place is
-- free. The others stay.
abbrev pub HasSlot : ℕ → ℕ → List Slot → List Slot → Type 0
HasSlot place now old new =
    (new ≡ slice_set old place (slot_in Asking now)) ⊎ (new ≡ slice_set old place free_slot)

-- A newcomer was let in, to the place that was chosen. Or none was: no place fits, or there is no
-- newcomer any more.
abbrev pub IsAdmission : Bool → ℕ → (had has : Bool) → List Slot → List Slot → Type 0
IsAdmission true now had has old new =
    (has ≡ had) × (place : ℕ) × IsChosen now old place × HasSlot place now old new
IsAdmission false now had has old new =
    (new ≡ old) × ((has ≡ false) ⊎ ((has ≡ had) × NoneFits now old))

-- no client has been in its stage for as long as it may
abbrev pub NoneLate : ℕ → List Slot → Type 0
NoneLate now slots = All (λ slot. ¬ (IsLate now slot)) slots

-- there are as many places, and those that are not `gone` are as they were
pub record KeepsOthers (gone : Slot → Type 0) (old new : List Slot) : Type 0 where
  pub many : length new ≡ length old
  pub kept : (place : ℕ) (slot : Slot) → slice_get old place ≡ Some slot → ¬ (gone slot)
      → slice_get new place ≡ Some slot

-- How long a wait lasts at most, in nanoseconds: 100 milliseconds while a newcomer waits for a
-- place, one second while there are clients, and else as long as it may.
abbrev pub longest_wait : Bool → List Slot → Option ℕ
longest_wait has_newcomer slots =
    if has_newcomer then Some 100_000_000
    else if list_all (λ slot. is_free slot.stage) slots then None
    else Some 1_000_000_000
