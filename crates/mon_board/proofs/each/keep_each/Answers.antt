use Rattle.std.proofs.Common.{◌≡◌, ◌<◌, length, get_or, sym, ap, ◌∙◌, subst, arith}
use Rattle.mon_window.specs.Window.{Samples, Window}
use Rattle.mon_board.specs.Marks.{Marks, AreKept}
use Rattle.mon_board.proofs.Boards.{set_at, set_at_is}
use Rattle.mon_board.proofs.Places.{one_changed}
use Rattle.mon_board.proofs.each.keep_each.Goals as goal

pub loop-i-preserved : goal.loop-i-preserved
loop-i-preserved c =
    let i = c.loop-i.i in
    let ws = c.args.windows.now in
    let w = c.index-windows-i.result in
    let lt : i < length c.loop-i.marks = omega (arith, c.loop-i-test.true, c.loop-i.auto.marks) in
    let there : i < length ws = omega (arith, lt, c.loop-i.invariant.number, c.requires.number) in
    let items : w.items ≡ set_at ws i = ap (λ (v : Window). v.items) c.index-windows-i.is ∙ sym (set_at_is ws i w there) in
    one_changed (λ i. AreKept (set_at ws i)) c.args.marks.now c.loop-i.marks i c.index-marks-i.result c.keep.new.self c.loop-i.invariant lt c.index-marks-i.is
    (subst (λ (m : Marks). AreKept (set_at ws i) m c.keep.new.self) (sym c.index-marks-i.is)
    (subst (λ (a : Samples). AreKept a (get_or c.loop-i.marks i c.index-marks-i.result) c.keep.new.self) items c.keep.ensures))
