use Rattle.mon_web.proofs.Oldest.{Best}
use Rattle.mon_web.proofs.slot.oldest.Given as goal

-- what was found among the places before
abbrev pub invariant-loop-place : goal.invariant-loop-place
invariant-loop-place l = Best l.now l.slots l.place l.found l.since
