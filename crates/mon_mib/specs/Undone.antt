-- What undoing one assignment has come to.
use Rattle.std.specs.Prelude.{◌≡◌, ℕ, List, [], ◌∷◌, ◌++◌, ◌⊎◌}
use Rattle.mon_mib.specs.declared.change.Change.{Change}
use Rattle.mon_mib.specs.declared.planned_change.PlannedChange.{PlannedChange}
use Rattle.mon_mib.specs.Change.{changed, one_failure}
use Rattle.mon_mib.specs.Held.{Held}

module _ {D : Type 0} (held : D → Held) (refuses : D → Change → Type 0) (failed : D → ℕ) where
  -- it was undone
  pub record IsBack (undo : PlannedChange) (old new : D) (before after : List ℕ) : Type 0 where
    pub holds : held new ≡ changed undo.change (held old)
    pub failures : failed new ≡ failed old
    pub listed : after ≡ before

  -- that was refused, and the binding's number is listed
  pub record IsListedStanding (undo : PlannedChange) (old new : D) (before after : List ℕ) : Type 0
    where
      pub holds : held new ≡ held old
      pub refused : refuses old undo.change
      pub failures : failed new ≡ one_failure (failed old)
      pub listed : after ≡ before ++ undo.index ∷ []

  -- a change was undone, or it remains and is listed
  abbrev pub IsUndoneOrStands : PlannedChange → D → D → List ℕ → List ℕ → Type 0
  IsUndoneOrStands undo old new before after = IsBack undo old new before after
      ⊎ IsListedStanding undo old new before after
