use Rattle.std.proofs.Common.{◌≤◌, ◌<◌, length, arith, rules}
use Rattle.mon_board.specs.Board.{window_of}
use Rattle.mon_board.specs.Watch.{IsWatch, size_of}
use Rattle.mon_carry.proofs.Sums.{counted, few}
use Rattle.mon_carry.proofs.counts.count_samples.Goals as goal

pub loop-i-preserved : goal.loop-i-preserved
loop-i-preserved c =
    let b = c.args.board.now in
    let i = c.loop-i.i in
    let xs = c.items.result.now in
    let is_watch : IsWatch b.watch = search rules in
    let place : i < length b.watch.instances = search rules in
    let held : length xs ≤ size_of b.watch i = search rules in (
      counted (window_of b) i c.loop-i.samples xs c.loop-i.invariant.0 c.items.ensures.items,
      omega (arith, c.loop-i.invariant.1, few b.watch i (length xs) is_watch place held),
    )
