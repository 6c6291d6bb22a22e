use Rattle.std.proofs.Common.{◌≡◌, ◌++◌, length}
use Rattle.std.specs.List.{flat_map}
use Rattle.mon_survey.specs.Edited.{block_without, blocks_of}
use Rattle.mon_survey.proofs.editing.text_without.Given as goal

-- with what becomes of the rest it is all
abbrev pub invariant-loop-rest : goal.invariant-loop-rest
invariant-loop-rest l = l.out.items ++ flat_map (block_without l.own) (blocks_of l.rest) ≡ flat_map (block_without l.own) (blocks_of l.text)

abbrev pub decreases-loop-rest : goal.decreases-loop-rest
decreases-loop-rest l = length l.rest
