use Rattle.std.proofs.Common.{◌≡◌, ◌≤◌, ◌*◌}
use Rattle.mon_station.specs.State.{owed_below, owed_to, state_of}
use Rattle.mon_station.proofs.life.Life.owed_count.Given as goal

-- the instances so far were counted
abbrev pub invariant-loop-place : goal.invariant-loop-place
invariant-loop-place l = record {
  is : l.count ≡ owed_below (owed_to (state_of l.self) l.slot) l.place;
  few : l.count ≤ 64 * l.place;
}
