use Rattle.std.proofs.Common.{◌≡◌, ◌++◌, take}
use Rattle.std.specs.List.{flat_map}
use Rattle.mon_survey.specs.Moved.{at_of}
use Rattle.mon_survey.specs.Changes.{change_of}
use Rattle.mon_survey.proofs.changes.add_changes.Given as goal

-- the changes so far
abbrev pub invariant-loop-index : goal.invariant-loop-index
invariant-loop-index l = l.changes.items ≡ l.initial.changes.items ++ flat_map (change_of (at_of l.places)) (take l.index-index l.indexes)
