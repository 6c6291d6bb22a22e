use Rattle.std.proofs.Common.{◌≡◌, ◌+◌, ◌≤◌, List, vec_len}
use Rattle.std.specs.Prelude.{vec_capacity}
use Rattle.mon_mib.specs.declared.planned_change.PlannedChange.{PlannedChange}
use Rattle.mon_mib.specs.Assignment.{AreApart}
use Rattle.mon_mib.specs.Commit.{changes, undoings, failures_after}
use Rattle.mon_mib.specs.Held.{Held}
use Rattle.mon_mib.proofs.Undoing.{IsAtUndo}
use Rattle.mon_mib.proofs.commit.undo_all.Given as goal

-- what is left to undo, and what remains assigned
abbrev pub invariant-loop-undo : goal.invariant-loop-undo
invariant-loop-undo g l = record {
  room : vec_len l.undos + vec_len l.standing ≤ vec_capacity l.standing;
  failures : g.D.Device.failed l.device ≡ failures_after l.standing.items (g.D.Device.failed l.fn.device);
  at : (done : List PlannedChange) (before : Held) → AreApart done → l.fn.undos.items ≡ undoings done before → g.D.Device.held l.fn.device ≡ changes done before
      → IsAtUndo g.D.Device.held g.D.Device.refuses g.D.Device.failed done before l.undos.items l.standing.items l.device;
}

abbrev pub decreases-loop-undo : goal.decreases-loop-undo
decreases-loop-undo g l = vec_len l.undos
