use Rattle.std.proofs.Common.{◌≡◌, take}
use Rattle.mon_rounds.specs.Clock.{clock_after}
use Rattle.mon_rounds.proofs.clock.clock_after.Given as goal

-- that after those so far
abbrev pub invariant-loop-stamp : goal.invariant-loop-stamp
invariant-loop-stamp l = l.after ≡ clock_after l.number (take l.stamp-index l.answered) l.fn.clock
