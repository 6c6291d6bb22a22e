use Rattle.std.proofs.Common.{length, ◌-◌, ◌≡◌, ◌≤◌, drop}
use Rattle.mon_http.specs.Front.{skip_line_ends}
use Rattle.mon_http.proofs.front.line_ends.Given as goal

abbrev pub invariant-loop-n : goal.invariant-loop-n
invariant-loop-n l = (l.n ≤ length l.octets) × (skip_line_ends (drop l.n l.octets) ≡ skip_line_ends l.octets)

abbrev pub decreases-loop-n : goal.decreases-loop-n
decreases-loop-n l = length l.octets - l.n
