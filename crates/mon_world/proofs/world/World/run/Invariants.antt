use Rattle.std.proofs.Common.{◌≡◌, ◌≤◌, ◌+◌, List, length, take, vec_len, vec_capacity}
use Rattle.mon_world.specs.Moves.{Move}
use Rattle.mon_world.specs.Outcome.{AreStepOutcomes}
use Rattle.mon_world.specs.Places.{setting_at}
use Rattle.mon_world.specs.Shows.{LeadsTo, Shows}
use Rattle.mon_world.proofs.world.World.run.Given as goal

abbrev pub invariant-loop-step : goal.invariant-loop-step
invariant-loop-step l = record {
  outcomes : (past : List Move) → Shows l.initial.self.core l.initial.self.stations.items l.initial.self.sent.items past
      → LeadsTo l.self.core l.self.stations.items l.self.sent.items (λ now. AreStepOutcomes (setting_at l.initial.self.core (length l.initial.self.stations.items)) (length l.initial.self.stations.items) (take l.step-index l.steps) l.results.items past now);
  room : vec_len l.results + length l.steps ≤ vec_capacity l.results + l.step-index;
  count : length l.results.items ≡ l.step-index;
  core : l.self.core ≡ l.initial.self.core;
  stations : length l.self.stations.items ≡ length l.initial.self.stations.items;
}
