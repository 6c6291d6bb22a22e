use Rattle.mon_board.specs.Board.{window_of}
use Rattle.mon_world.specs.Shows.{state_in}
use Rattle.mon_world.proofs.Reopened.{stopped_as}
use Rattle.mon_world.proofs.stop.promise_unsaved.Goals as goal

pub returns : goal.returns
returns c =
    let b = c.board.result.now in
    stopped_as (state_in c.args.station.now) b c.board.ensures (λ i. c.taken_in_turn.ensures.none b.watch (window_of b) i (c.watch.ensures.whole i)) c.watch.ensures.entries
