use Rattle.std.proofs.Common.{◌≡◌, ◌++◌, take}
use Rattle.std.specs.Prelude.{map}
use Rattle.mon_survey.specs.declared.changes.Change.TheVariants.{Added}
use Rattle.mon_survey.proofs.changes.add_new.Given as goal

-- the new interfaces so far
abbrev pub invariant-loop-index : goal.invariant-loop-index
invariant-loop-index l = l.changes.items ≡ l.initial.changes.items ++ map (λ i. Added i) (take l.index-index l.indexes)
