use Rattle.std.proofs.Common.{◌<◌, ℕ, length, refl, sym, subst, ◌∙◌}
use Rattle.mon_board.specs.Board.{window_of}
use Rattle.mon_board.specs.Watch.{Watch}
use Rattle.mon_board.specs.Windows.{IsTaken, IsWhole}
use Rattle.mon_board.proofs.Turns.{keeps_own, keeps_more, one_taken, pairs_more, stayed}
use Rattle.mon_saved.proofs.kept.KeptImage.take_pairs.Goals as goal

pub loop-instance-init : goal.loop-instance-init
loop-instance-init c = record {
  watch = refl;
  windows = λ i. sym (c.taken_in_turn.ensures.none c.args.board.now.watch (window_of c.args.board.now) i (c.watch.ensures.whole i));
  marks = keeps_own c.args.board.now c.watch.ensures.entries;
  kept = c.requires.kept;
}

pub loop-instance-preserved : goal.loop-instance-preserved
loop-instance-preserved c =
    let start = c.args.board.now in
    let old = c.loop-instance.board in
    let new = c.take.new.board in
    let so_far = c.loop-instance.invariant in
    let watch = start.watch in
    let k = c.loop-instance.instance-index in
    let pair = c.loop-instance-item.result in
    let whole : (i : ℕ) → IsWhole watch (window_of old) i = λ i. subst (λ (w : Watch). IsWhole w (window_of old) i) so_far.watch (c.watch-in-loop-instance.ensures.whole i) in
    let put = subst (λ (w : Watch). IsTaken w (window_of old) (window_of new) pair.0 pair.1) so_far.watch c.take.ensures.taken in
    let longer = pairs_more c.args.pairs.now k pair c.loop-instance-test.true c.loop-instance-item.is in
    record {
      watch = c.take.ensures.watch ∙ so_far.watch;
      windows = one_taken watch (window_of start) (window_of old) (window_of new) _ _ pair longer so_far.windows whole put;
      marks = keeps_more start old new so_far.marks c.take.ensures.marks
          (stayed watch (window_of start) (window_of old) (window_of new) _ _ pair longer so_far.windows whole put);
      kept = c.take.ensures.kept;
    }

pub take-requires-clause-instance : goal.take-requires-clause-instance
take-requires-clause-instance c =
    let k = c.loop-instance.instance-index in
    let pair = c.loop-instance-item.result in
    let below : pair.0 < length c.args.board.now.watch.instances =
    subst (λ (p : ℕ × ℕ). p.0 < length c.args.board.now.watch.instances) (sym c.loop-instance-item.is) (c.requires.instances k pair c.loop-instance-test.true) in
    subst (λ (w : Watch). pair.0 < length w.instances) (sym c.loop-instance.invariant.watch) below
