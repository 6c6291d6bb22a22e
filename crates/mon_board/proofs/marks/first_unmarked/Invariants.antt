use Rattle.std.proofs.Common.{◌≡◌, drop}
use Rattle.std.specs.List.{filter}
use Rattle.std.specs.Prelude.{not}
use Rattle.mon_board.specs.Marks.{marked_in}
use Rattle.mon_board.specs.Owed.{next_above}
use Rattle.mon_board.proofs.marks.first_unmarked.Given as goal

-- the one that is looked for is not among the samples so far
abbrev pub invariant-loop-sample : goal.invariant-loop-sample
invariant-loop-sample l =
    next_above l.after (filter (λ s. not (marked_in l.slot s l.marks.items)) l.items)
    ≡ next_above l.after (filter (λ s. not (marked_in l.slot s l.marks.items)) (drop l.sample-index l.items))
