use Rattle.std.proofs.lemmas.Result.{err_from_is_err_and}
use Rattle.mon_saved.proofs.Images.{fails_only}
use Rattle.mon_own_watch.proofs.Kept.{memory_unnamed, own_restored}
use Rattle.mon_own_watch.proofs.board.own_board.Goals as goal

pub returns-in_err-watch-clause-only : goal.returns-in_err-watch-clause-only
returns-in_err-watch-clause-only c = λ watch is.
    let p = err_from_is_err_and c.from_residual.result c.from_residual.ensures.1 in
    rw (p.1, p.2) (fails_only c.in_err-watch.field-0.0 watch (c.in_err-watch.ensures.only watch is))

pub returns-clause-found : goal.returns-clause-found
returns-clause-found c =
    own_restored c.args.octets.now c.in_ok-watch.watch c.in_ok-board.board _ (c.whole.ensures.restored c.args.octets.now c.in_ok-watch.watch c.in_ok-board.board _ c.in_ok-watch.ensures.found) c.in_ok-watch.ensures.found c.in_ok-board.ensures.found

pub returns-in_err-board-clause-only : goal.returns-in_err-board-clause-only
returns-in_err-board-clause-only c = λ watch is.
    let p = err_from_is_err_and c.from_residual-in_err-board.result c.from_residual-in_err-board.ensures.1 in
    rw (p.1, p.2) (c.in_err-board.ensures.only c.in_ok-watch.ensures.found.image c.in_ok-watch.ensures.found.spelled)

pub returns-in_err-board-clause-fault : goal.returns-in_err-board-clause-fault
returns-in_err-board-clause-fault c =
    let p = err_from_is_err_and c.from_residual-in_err-board.result c.from_residual-in_err-board.ensures.1 in
    rw (p.1, p.2) (memory_unnamed c.args.octets.now c.in_err-board.field-0.0 (c.in_err-board.ensures.only c.in_ok-watch.ensures.found.image c.in_ok-watch.ensures.found.spelled))
