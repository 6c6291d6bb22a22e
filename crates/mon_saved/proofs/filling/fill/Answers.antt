use Rattle.std.proofs.Common.{ℕ, List, refl, sym, ap, ◌∙◌}
use Rattle.mon_board.specs.Board.{window_of}
use Rattle.mon_board.specs.Watch.{Watch}
use Rattle.mon_board.specs.Windows.{joined, paired}
use Rattle.mon_saved.specs.declared.image.Entry.{Entry}
use Rattle.mon_saved.proofs.Fills.{one_filled, stays_unmarked}
use Rattle.mon_saved.proofs.filling.fill.Goals as goal

pub loop-k-init : goal.loop-k-init
loop-k-init c = (refl, λ i. sym (c.taken_in_turn.ensures.none c.args.board.now.watch (window_of c.args.board.now) i (c.watch.ensures.whole i)), λ none. none)

pub loop-k-preserved : goal.loop-k-preserved
loop-k-preserved c =
    let stays = c.loop-k.invariant.0 in (
      c.take_all.ensures.watch ∙ stays,
      one_filled c.args.board.now.watch (c.taken_in_turn.ensures.more c.args.board.now.watch) (window_of c.args.board.now) (window_of c.loop-k.board) (window_of c.take_all.new.self)
          c.args.entries.now c.loop-k.k c.index-entries-k.result c.loop-k-test.true c.index-entries-k.is c.loop-k.invariant.1
          (λ i. c.take_all.ensures.windows i ∙ ap (λ (v : List ℕ). joined c.loop-k.board.watch (window_of c.loop-k.board) (paired c.loop-k.k v) i) (c.as_slice.ensures ∙ ap (λ (x : Entry). x.samples) (sym c.index-entries-k.is))
          ∙ ap (λ (w : Watch). joined w (window_of c.loop-k.board) (paired c.loop-k.k c.index-entries-k.result.samples) i) stays),
      λ none. stays_unmarked c.loop-k.board c.take_all.new.self c.take_all.ensures.marks (c.loop-k.invariant.2 none),
    )
