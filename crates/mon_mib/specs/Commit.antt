-- The second phase of a Set (RFC 3416 section 4.2.5).
use Rattle.std.specs.Prelude.{◌≡◌, ◌≢◌, ◌⊎◌, ℕ, List, [], ◌∷◌, ◌++◌, map, Contains, All}
use Rattle.mon_mib.specs.declared.change.Change.{Change}
use Rattle.mon_mib.specs.declared.commit.Commit.{Commit}
use Rattle.mon_mib.specs.declared.commit.Commit.TheVariants.{Done, CommitFailed, UndoFailed}
use Rattle.mon_mib.specs.declared.planned_change.PlannedChange.{PlannedChange}
use Rattle.mon_mib.specs.Assignment.{AreApart}
use Rattle.mon_mib.specs.Change.{changed, undoing, one_failure}
use Rattle.mon_mib.specs.Held.{Held}

-- what is held after these assignments, one after another
abbrev pub changes : List PlannedChange → Held → Held
changes [] h = h
changes (s ∷ ss) h = changes ss (changed s.change h)

-- the assignments that undo these, in the same order
abbrev pub undoings : List PlannedChange → Held → List PlannedChange
undoings [] h = []
undoings (s ∷ ss) h = record { index = s.index; change = undoing s.change h }
    ∷ undoings ss (changed s.change h)

-- a count of failures after one more for each of these
abbrev pub failures_after : List ℕ → ℕ → ℕ
failures_after [] count = count
failures_after (n ∷ ns) count = failures_after ns (one_failure count)

-- some of these assignments, the last of them first
abbrev pub AreSomeBackwards : List PlannedChange → List PlannedChange → Type 0
AreSomeBackwards [] some = some ≡ []
AreSomeBackwards (s ∷ ss) some = AreSomeBackwards ss some ⊎ ((later : List PlannedChange)
    × (some ≡ later ++ s ∷ []) × AreSomeBackwards ss later)

-- what devices of one kind hold, and which changes they refuse
module _ {D : Type 0} (held : D → Held) (refuses : D → Change → Type 0) where
  -- a device that held this refused the change
  pub record Refused (h : Held) (change : Change) : Type 0 where
    pub device : D
    pub holds : held device ≡ h
    pub refused : refuses device change

  -- some device refused the change
  pub record IsRefusedOnce (change : Change) : Type 0 where
    pub device : D
    pub refused : refuses device change

  -- after these assignments the next one failed, that of the binding of this number
  pub record IsFailedAfter (done steps : List PlannedChange) (before : Held) (number : ℕ) : Type 0
    where
      pub failed : PlannedChange
      pub others : List PlannedChange
      pub order : steps ≡ done ++ failed ∷ others
      pub is : failed.index ≡ number
      pub refused : Refused (changes done before) failed.change

  -- Of the assignments that were made, some remain, those of the bindings of these numbers, the
  -- last first: of each the undoing was refused. All else is as before.
  pub record IsLeft (done : List PlannedChange) (before after : Held) (standing : List ℕ) : Type 0
    where
      pub left : List PlannedChange
      pub some : left ≢ []
      pub made : All (Contains done) left
      pub once : AreApart left
      pub order : AreSomeBackwards done left
      pub numbers : standing ≡ map (λ s. s.index) left
      pub refused : All (λ s. IsRefusedOnce (undoing s.change before)) left
      pub holds : after ≡ changes left before

  -- what undoing these assignments has come to, after that of this number failed
  abbrev pub IsUndone : List PlannedChange → Held → Held → ℕ → Commit → Type 0
  IsUndone done before after number Done = ⊥
  IsUndone done before after number (CommitFailed failed) = (failed ≡ number) × (after ≡ before)
  IsUndone done before after number (UndoFailed failed standing) = (failed ≡ number)
      × IsLeft done before after standing.items

  -- what assigning has come to
  pub record IsCommitProgress (steps : List PlannedChange) (before : Held) (number : ℕ)
      (P : List PlannedChange → Type 0) : Type 0 where
    pub done : List PlannedChange
    pub failed : IsFailedAfter done steps before number
    pub holds : P done

  -- what assigning gave, and what the device holds after it: every change, what it held before, or
  -- what could not be undone
  abbrev pub IsCommitted : List PlannedChange → Held → Held → Commit → Type 0
  IsCommitted steps before after Done = after ≡ changes steps before
  IsCommitted steps before after (CommitFailed failed) = IsCommitProgress steps before failed
      (λ _. after ≡ before)
  IsCommitted steps before after (UndoFailed failed standing) = IsCommitProgress steps before failed
      (λ done. IsLeft done before after standing.items)

-- the count of failures then
abbrev pub failures_by_then : Commit → ℕ → ℕ
failures_by_then Done count = count
failures_by_then (CommitFailed failed) count = one_failure count
failures_by_then (UndoFailed failed standing) count = failures_after standing.items
    (one_failure count)

-- only the failures of the undoing
abbrev pub undo_failures : Commit → ℕ → ℕ
undo_failures Done count = count
undo_failures (CommitFailed failed) count = count
undo_failures (UndoFailed failed standing) count = failures_after standing.items count
