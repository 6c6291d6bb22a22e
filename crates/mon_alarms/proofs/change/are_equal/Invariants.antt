use Rattle.std.proofs.Common.{◌≡◌, take}
use Rattle.mon_alarms.proofs.change.are_equal.Given as goal

-- those so far are the same
abbrev pub invariant-loop-place : goal.invariant-loop-place
invariant-loop-place l = take l.place l.some ≡ take l.place l.others
