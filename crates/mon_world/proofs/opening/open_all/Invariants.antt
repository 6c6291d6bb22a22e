use Rattle.std.proofs.Common.{◌≡◌, ◌+◌, length}
use Rattle.mon_world.specs.Shows.{AreFirst}
use Rattle.mon_world.proofs.opening.open_all.Given as goal

abbrev pub invariant-loop-number : goal.invariant-loop-number
invariant-loop-number l = record {
  first : AreFirst l.core l.count l.stations.items;
  count : length l.stations.items + 1 ≡ l.number;
}
