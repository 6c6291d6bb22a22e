-- What happens to a disk under its keepers, one call or stop after another, and what an opening may
-- find after it.
use Rattle.std.specs.Prelude.{◌≡◌, ◌⊎◌, ℕ, List, [], ◌∷◌, Option, Some, None, Contains}
use Rattle.mon_disk.specs.Disk.{Only, Leaves, LeavesSince}
use Rattle.mon_disk.specs.Keeper.{FindsAs, FindsBody}

-- A call of a keeper with its answer, or a stop: an opening that found this body (None: nothing was
-- saved) or failed, a save of this body that was acknowledged or failed, a reopening after which
-- this body is the last (None: nothing is) or that failed, a stop within a save of this body (None:
-- within an opening, or between calls), or one within a reopening.
pub data Event : Type 0 where
  opened : Option (List ℕ) → Event
  unopened : Event
  acknowledged : List ℕ → Event
  unacknowledged : List ℕ → Event
  reopened : Option (List ℕ) → Event
  unreopened : Option (List ℕ) → Event
  stopped : Option (List ℕ) → Event
  stopped_reopening : Option (List ℕ) → Event

-- The bodies that an opening may find after it, if these are the ones before, the newest first:
-- what an opening found, a save acknowledged or a reopening went back to is the only one, a body
-- whose save was running comes to those before, and a reopening that failed or was stopped brings
-- none.
abbrev pub found_after : List (Option (List ℕ)) → Event → List (Option (List ℕ))
found_after bodies (opened body) = body ∷ []
found_after bodies unopened = bodies
found_after bodies (acknowledged body) = Some body ∷ []
found_after bodies (unacknowledged body) = Some body ∷ bodies
found_after bodies (reopened body) = body ∷ []
found_after bodies (unreopened body) = bodies
found_after bodies (stopped None) = bodies
found_after bodies (stopped (Some body)) = Some body ∷ bodies
found_after bodies (stopped_reopening body) = bodies

-- the oldest of them: what the last opening found, or the last save acknowledged
abbrev pub oldest : List (Option (List ℕ)) → Option (List ℕ)
oldest [] = None
oldest (body ∷ []) = body
oldest (body ∷ next ∷ bodies) = oldest (next ∷ bodies)

-- a reopening goes back to that one and no other
abbrev pub GoesBack : List (Option (List ℕ)) → Event → Type 0
GoesBack bodies (reopened body) = body ≡ oldest bodies
GoesBack bodies (unreopened body) = body ≡ oldest bodies
GoesBack bodies (stopped_reopening body) = body ≡ oldest bodies
GoesBack bodies event = Unit {0}

-- an opening of this file finds one of these bodies
abbrev pub FindsOneOf : List (Option (List ℕ)) → List ℕ → Type 0
FindsOneOf bodies file = (body : Option (List ℕ)) × Contains bodies body × FindsBody body file

-- an opening of this file meets what it would have met before, or finds the body whose save was
-- running
abbrev pub FindsRunning : Option (List ℕ) → (List ℕ → Type 0) → List ℕ → Type 0
FindsRunning None outcomes file = FindsAs outcomes file
FindsRunning (Some body) outcomes file = FindsAs outcomes file ⊎ FindsBody (Some body) file

-- an opening of this file meets what it would have met before, or finds the last body again
abbrev pub FindsAgain : Option (List ℕ) → (List ℕ → Type 0) → List ℕ → Type 0
FindsAgain last outcomes file = FindsAs outcomes file ⊎ FindsBody last file

module _ {D : Type 0} (is_honest : D → Type 0) (seen : D → List ℕ) (may_leave : D → List ℕ → Type 0)
    (moment : D → ℕ) (left_since : D → ℕ → List ℕ → Type 0) where
  -- an opening that answered this body, as its clauses found and kept say
  pub record IsOpened (body : Option (List ℕ)) (old new : D) : Type 0 where
    pub found : FindsBody body (seen old)
    pub kept : Leaves (may_leave new) (FindsBody body)

  -- a stop at some time of a call after which `then` is the disk: a crash then left this file, of
  -- which P holds, and the next disk has it and nothing else
  pub record IsStopped (P : List ℕ → Type 0) (old new : D) : Type 0 where
    pub then : D
    pub any_moment : LeavesSince moment left_since old then P
    pub file : List ℕ
    pub left : left_since then (moment old) file
    pub only : Only file (may_leave new)

  -- what a keeper promises of an event, from the disk before it to the disk after it, as its
  -- clauses found, kept, saved, opening and any_moment say
  abbrev pub Happens : Event → D → D → Type 0
  Happens (opened body) old new = IsOpened body old new
  Happens unopened old new = LeavesSince moment left_since old new (FindsAs (may_leave old))
  Happens (acknowledged body) old new = Leaves (may_leave new) (FindsBody (Some body))
  Happens (unacknowledged body) old new = LeavesSince moment left_since old new
      (FindsRunning (Some body) (may_leave old))
  Happens (reopened body) old new = Leaves (may_leave new) (FindsBody body)
  Happens (unreopened body) old new = LeavesSince moment left_since old new
      (FindsAgain body (may_leave old))
  Happens (stopped running) old new = IsStopped (FindsRunning running (may_leave old)) old new
  Happens (stopped_reopening body) old new = IsStopped (FindsAgain body (may_leave old)) old new

  -- each event with the honest disk that it left, the first of them first, where an opening may
  -- find these bodies before them
  abbrev pub IsHistory : List (Option (List ℕ)) → D → List (Event × D) → Type 0
  IsHistory bodies old [] = Unit {0}
  IsHistory bodies old ((event, new) ∷ rest) = is_honest new × GoesBack bodies event
      × Happens event old new × IsHistory (found_after bodies event) new rest

-- the disk after a history
abbrev pub last_disk : {D : Type 0} → D → List (Event × D) → D
last_disk disk [] = disk
last_disk disk ((event, new) ∷ rest) = last_disk new rest

-- the bodies that an opening may find after it
abbrev pub may_find : {D : Type 0} → List (Option (List ℕ)) → List (Event × D)
    → List (Option (List ℕ))
may_find bodies [] = bodies
may_find bodies ((event, new) ∷ rest) = may_find (found_after bodies event) rest
