use Rattle.std.proofs.Common.{◌≡◌, ◌≤◌, ◌-◌, ◌++◌, length, take, drop}
use Rattle.mon_http.specs.Route.{before}
use Rattle.mon_http.proofs.route.before.Given as goal

abbrev pub invariant-loop-end : goal.invariant-loop-end
invariant-loop-end l =
    (l.end ≤ length l.octets) × (before l.a l.b l.octets ≡ take l.end l.octets ++ before l.a l.b (drop l.end l.octets))

abbrev pub decreases-loop-end : goal.decreases-loop-end
decreases-loop-end l = length l.octets - l.end
