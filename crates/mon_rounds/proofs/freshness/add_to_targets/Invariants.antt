use Rattle.mon_rounds.specs.Freshness.{target_after}
use Rattle.mon_rounds.proofs.InPlace.{AreMappedTo}
use Rattle.mon_rounds.proofs.freshness.add_to_targets.Given as goal

-- those so far are changed, and the others are as they were
abbrev pub invariant-loop-place : goal.invariant-loop-place
invariant-loop-place l = AreMappedTo (target_after l.spell.span l.report l.spell.ended) l.initial.targets l.targets l.place
