use Rattle.std.proofs.Common.{rules, ◌≡◌, ◌≤◌, List, ℕ, length, ap, arith}
use Rattle.mon_board.specs.Board.{window_of}
use Rattle.mon_board.specs.declared.instance.Watched.{Watched}
use Rattle.mon_board.specs.Instance.{instances_of}
use Rattle.mon_saved.specs.Written.{image_of}
use Rattle.mon_saved.proofs.Loops.{left, left_none, length-image}
use Rattle.mon_saved.proofs.writing.image_size.Goals as goal

pub returns-clause-size : goal.returns-clause-size
returns-clause-size c = λ incarnation.
    let b = c.args.board.now in
    let same : c.instances-watched.result.now ≡ b.watch.instances = search rules in
    let none = ap (λ (v : List ℕ). length v) (left_none (window_of b) c.instances-watched.result.now c.loop-i.i (omega (arith, c.loop-i-test.false))) in
    let begun = ap (λ (v : List Watched). length (left (window_of b) v 0)) same in
    omega (arith, none, begun, c.loop-i.invariant.0, length-image (instances_of b.watch.instances) (image_of b incarnation))

pub returns-clause-few : goal.returns-clause-few
returns-clause-few c =
    let few : length c.instances-watched.result.now ≤ 256 = search rules in
    omega (arith, few, c.loop-i.invariant.1)
