use Rattle.std.proofs.Common.{◌≡◌, ◌<◌, Any, ℕ}
use Rattle.mon_world.proofs.Strangers.{stranger_at}
use Rattle.mon_world.proofs.speaker.stranger.Given as goal

abbrev pub invariant-loop-port : goal.invariant-loop-port
invariant-loop-port l = (port : ℕ) → port < l.port → Any (λ t. t.address ≡ stranger_at port) l.targets
