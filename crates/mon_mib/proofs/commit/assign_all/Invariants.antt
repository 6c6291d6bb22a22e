use Rattle.std.proofs.Common.{◌≡◌, ◌+◌, ◌≤◌, [], length, vec_len}
use Rattle.std.specs.Prelude.{vec_capacity}
use Rattle.mon_mib.specs.Assignment.{AreApart}
use Rattle.mon_mib.proofs.Assigning.{IsAtAssign}
use Rattle.mon_mib.proofs.commit.assign_all.Given as goal

-- this part of the plan is assigned, with capacity for undoing all of it
abbrev pub invariant-loop-step : goal.invariant-loop-step
invariant-loop-step g l = record {
  apart : AreApart l.fn.plan;
  none : l.standing.items ≡ [];
  all : vec_len l.undos + length l.steps.items ≡ length l.fn.plan;
  can_undo : length l.fn.plan ≤ vec_capacity l.undos;
  can_stand : length l.fn.plan ≤ vec_capacity l.standing;
  failures : g.D.Device.failed l.device ≡ g.D.Device.failed l.fn.device;
  at : IsAtAssign l.fn.plan (g.D.Device.held l.fn.device) l.steps.items l.undos.items (g.D.Device.held l.device);
}

abbrev pub decreases-loop-step : goal.decreases-loop-step
decreases-loop-step g l = length l.steps.items
