use Rattle.std.proofs.Common.{◌≡◌, ◌++◌, length}
use Rattle.std.specs.List.{flat_map}
use Rattle.mon_survey.specs.Edited.{lines_of, only_comment}
use Rattle.mon_survey.proofs.editing.put_comments.Given as goal

-- with what becomes of the rest it is all
abbrev pub invariant-loop-rest : goal.invariant-loop-rest
invariant-loop-rest l = l.out.items ++ flat_map only_comment (lines_of l.rest) ≡ l.initial.out.items ++ flat_map only_comment (lines_of l.block)

abbrev pub decreases-loop-rest : goal.decreases-loop-rest
decreases-loop-rest l = length l.rest
