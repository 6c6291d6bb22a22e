use Rattle.std.proofs.Common.{◌≤◌, ◌-◌, length, drop}
use Rattle.mon_http_client.specs.declared.response.Progress.{Progress}
use Rattle.mon_http_client.specs.Response.{ReadsFrom}
use Rattle.mon_http_client.proofs.response.read_response.Given as goal

abbrev pub invariant-loop-n : goal.invariant-loop-n
invariant-loop-n l =
    (l.past ≤ length l.seen)
    × ((p : Progress) → ReadsFrom l.past (drop l.past l.seen) p → ReadsFrom 0 l.seen p)

abbrev pub decreases-loop-n : goal.decreases-loop-n
decreases-loop-n l = length l.seen - l.past
