use Rattle.std.proofs.Common.{◌≡◌, ◌-◌}
use Rattle.mon_world.specs.Places.{others_to}
use Rattle.mon_world.proofs.opening.core_at.Given as goal

abbrev pub invariant-loop-peer : goal.invariant-loop-peer
invariant-loop-peer l = l.peers.items ≡ others_to l.number (l.peer - 1)
