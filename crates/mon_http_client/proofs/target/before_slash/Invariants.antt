use Rattle.std.proofs.Common.{◌≡◌, ◌≤◌, ◌-◌, ◌++◌, length, take, drop}
use Rattle.mon_http_client.specs.Target.{before_slash}
use Rattle.mon_http_client.proofs.target.before_slash.Given as goal

abbrev pub invariant-loop-end : goal.invariant-loop-end
invariant-loop-end l =
    (l.end ≤ length l.octets) × (before_slash l.octets ≡ take l.end l.octets ++ before_slash (drop l.end l.octets))

abbrev pub decreases-loop-end : goal.decreases-loop-end
decreases-loop-end l = length l.octets - l.end
