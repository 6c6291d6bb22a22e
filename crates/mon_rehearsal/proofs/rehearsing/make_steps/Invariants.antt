use Rattle.std.proofs.Common.{◌≡◌, List, length, take}
use Rattle.mon_world.specs.Moves.{Move}
use Rattle.mon_world.specs.Places.{setting_at}
use Rattle.mon_world.specs.Shows.{Shows}
use Rattle.mon_rehearsal.specs.Rehearsed.{HaveBeenMade}
use Rattle.mon_rehearsal.proofs.rehearsing.make_steps.Given as goal

-- the steps so far are made, and the number of the last one
abbrev pub invariant-loop-step : goal.invariant-loop-step
invariant-loop-step l = record {
  made : (past : List Move) → Shows l.fn.world.core l.fn.world.stations.items l.fn.world.sent.items past
      → HaveBeenMade l.world.core l.world.stations.items l.world.sent.items (setting_at l.fn.world.core (length l.fn.world.stations.items)) (length l.fn.world.stations.items) (take l.step-index l.steps) past l.fn.text.items l.text.items;
  core : l.world.core ≡ l.fn.world.core;
  stations : length l.world.stations.items ≡ length l.fn.world.stations.items;
  at : l.number ≡ l.step-index;
}
