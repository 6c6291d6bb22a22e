use Rattle.std.proofs.Common.{◌∙◌, sym, arith}
use Rattle.std.proofs.lemmas.List.{same_lists}
use Rattle.mon_board.proofs.Places.{all_changed}
use Rattle.mon_board.proofs.each.copy_each.Goals as goal

pub returns : goal.returns
returns c =
    let all = all_changed _ c.args.windows.now c.loop-i.windows c.loop-i.i c.loop-i.invariant (omega (arith, c.loop-i-test.false)) in
    same_lists c.loop-i.windows c.args.others.now (all.number ∙ sym c.requires.number)
    (λ k d lt. all.each k d (omega (arith, lt, all.number)) d)
