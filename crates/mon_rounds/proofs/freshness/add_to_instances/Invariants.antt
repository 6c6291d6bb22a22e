use Rattle.mon_rounds.specs.Freshness.{instance_after}
use Rattle.mon_rounds.proofs.InPlace.{AreMappedTo}
use Rattle.mon_rounds.proofs.freshness.add_to_instances.Given as goal

-- those so far are changed, and the others are as they were
abbrev pub invariant-loop-place : goal.invariant-loop-place
invariant-loop-place l = AreMappedTo (instance_after l.span l.board) l.initial.instances l.instances l.place
