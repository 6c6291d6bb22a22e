use Rattle.std.proofs.Common.{◌||◌, ◌&&◌, get_or, refl, ◌∙◌}
use Rattle.std.specs.Prelude.{◌==◌}
use Rattle.std.specs.FinSet as set
use Rattle.mon_board.specs.Board.{is_marked, window_of}
use Rattle.mon_exchange.proofs.Noting.{marked_more, none_claimed}
use Rattle.mon_exchange.proofs.marking.mark_all.Goals as goal

pub loop-sample-init : goal.loop-sample-init
loop-sample-init c = record {
  watch = refl;
  windows = refl;
  marks = λ k i s. none_claimed (is_marked c.args.board.now k i s) (k == c.args.slot) c.args.instance (window_of c.args.board.now) i s;
}

pub loop-sample-preserved : goal.loop-sample-preserved
loop-sample-preserved c =
    let slot = c.args.slot in
    let number = c.args.instance in
    let start = c.args.board.now in
    let so_far = c.loop-sample.invariant in
    let x = c.sample-item.result in
    record {
      watch = c.mark.ensures.watch ∙ so_far.watch;
      windows = c.mark.ensures.windows ∙ so_far.windows;
      marks = λ k i s.
          c.mark.ensures.marks k i s
          ∙ (λ j. so_far.marks k i s j || (((k == slot) && (i == number)) && ((s == x) && set.contains (get_or (so_far.windows j) i set.empty) s)))
          ∙ marked_more slot number c.args.samples.now c.loop-sample.sample-index x c.loop-sample-test.true c.sample-item.is (window_of start) (is_marked start k i s) k i s;
    }
