use Rattle.std.proofs.Common.{◌≡◌, ◌-◌, ◌++◌, length, take, drop}
use Rattle.mon_reasons.specs.NewestDatagrams.{newest_of}
use Rattle.mon_reasons.proofs.newest_datagrams.limit.Given as goal

-- those before the place are kept, and of the others those that may be
abbrev pub invariant-loop-place : goal.invariant-loop-place
invariant-loop-place l = take l.place l.datagrams.items ++ newest_of l.from l.left (drop l.place l.datagrams.items) ≡ newest_of l.from l.most l.initial.datagrams.items

abbrev pub decreases-loop-place : goal.decreases-loop-place
decreases-loop-place l = length l.datagrams.items - l.place
