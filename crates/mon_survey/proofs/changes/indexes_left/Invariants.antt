use Rattle.std.proofs.Common.{◌≡◌, take}
use Rattle.std.specs.List.{flat_map}
use Rattle.std.specs.Option.{option_to_list}
use Rattle.mon_survey.specs.Moved.{at_of, index_now}
use Rattle.mon_survey.proofs.changes.indexes_left.Given as goal

-- the indexes so far
abbrev pub invariant-loop-index : goal.invariant-loop-index
invariant-loop-index l = l.left.items ≡ flat_map (λ i. option_to_list (index_now (at_of l.places) i)) (take l.index-index l.index-items)
