use Rattle.std.proofs.Common.{◌≡◌, take}
use Rattle.mon_rounds.specs.Freshness.{numbered}
use Rattle.mon_rounds.specs.Polled.{target_for}
use Rattle.mon_rounds.proofs.polled.polled_targets.Given as goal

-- those so far
abbrev pub invariant-loop-number : goal.invariant-loop-number
invariant-loop-number l = l.polled.items ≡ numbered (λ number watched. target_for l.core.targets number) 0 (take l.number l.core.watch.instances)
