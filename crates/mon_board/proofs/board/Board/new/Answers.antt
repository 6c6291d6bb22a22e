use Rattle.std.proofs.Common.{ap, ◌∙◌}
use Rattle.mon_board.proofs.Boards.{are_empty, empty_at, set_at}
use Rattle.mon_board.proofs.Marked.{all_unmarked, none_marked}
use Rattle.mon_board.proofs.board.Board.new.Goals as goal

pub invariant_of-result : goal.invariant_of-result
invariant_of-result c =
    let ws = c.in_ok-windows.windows.items in
    let are = are_empty c.args.watch ws c.in_ok-windows.ensures in
    (are, all_unmarked c.args.watch ws c.in_ok-marks.marks.items are.number c.in_ok-marks.ensures)

pub returns-clause-empty : goal.returns-clause-empty
returns-clause-empty c = λ i. ap (λ ws. set_at ws i) c.in_ok-windows.ensures ∙ empty_at c.args.watch.instances i

pub returns-clause-unmarked : goal.returns-clause-unmarked
returns-clause-unmarked c =
    let ws = c.in_ok-windows.windows.items in
    let are = are_empty c.args.watch ws c.in_ok-windows.ensures in
    none_marked c.args.watch ws c.in_ok-marks.marks.items are.number c.in_ok-marks.ensures
