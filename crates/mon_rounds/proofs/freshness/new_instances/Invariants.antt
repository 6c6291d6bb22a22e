use Rattle.std.proofs.Common.{◌≡◌, take}
use Rattle.std.specs.Prelude.{None, get_or}
use Rattle.mon_rounds.specs.Freshness.{new_instance, numbered}
use Rattle.mon_rounds.proofs.freshness.new_instances.Given as goal

-- those so far
abbrev pub invariant-loop-place : goal.invariant-loop-place
invariant-loop-place l = l.instances.items ≡ numbered (λ number watched. new_instance l.board number (get_or l.polled number None)) 0 (take l.place l.board.watch.instances)
