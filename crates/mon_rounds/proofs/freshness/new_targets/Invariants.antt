use Rattle.std.proofs.Common.{◌≡◌, take}
use Rattle.mon_rounds.specs.Freshness.{new_target, numbered}
use Rattle.mon_rounds.proofs.freshness.new_targets.Given as goal

-- those so far
abbrev pub invariant-loop-place : goal.invariant-loop-place
invariant-loop-place l = l.targets.items ≡ numbered new_target 0 (take l.place l.addresses)
