-- The capacity of a plan.
use Rattle.std.specs.Prelude.{◌≡◌, ℕ, ◌≤◌, List, [], length}
use Rattle.mon_mib.specs.declared.planned_change.PlannedChange.{PlannedChange}
use Rattle.mon_mib.specs.Assignment.{AreApart}

-- there is capacity to undo each step, and to list it as remaining, and no two change the same
-- thing
pub record HasRoomToUndo (steps undos : List PlannedChange) (standing : List ℕ)
    (undo_room standing_room : ℕ)
    : Type 0 where
  pub apart : AreApart steps
  pub no_undos : undos ≡ []
  pub none_standing : standing ≡ []
  pub can_undo : length steps ≤ undo_room
  pub can_stand : length steps ≤ standing_room
