use Rattle.std.proofs.Common.{◌≡◌, ◌∙◌, List, refl, ap}
use Rattle.std.proofs.lemmas.Result.{err_from_is_err_and}
use Rattle.mon_board.specs.Board.{window_of}
use Rattle.mon_board.specs.Watch.{Watch}
use Rattle.mon_board.specs.Windows.{window}
use Rattle.mon_saved.specs.declared.image.Entry.{Entry}
use Rattle.mon_saved.specs.Restored.{pairs_from}
use Rattle.mon_saved.proofs.Fills.{from_empty}
use Rattle.mon_saved.proofs.Images.{fails_only}
use Rattle.mon_saved.proofs.filling.read_image.Goals as goal

pub returns-in_err-image-clause-only : goal.returns-in_err-image-clause-only
returns-in_err-image-clause-only c = λ image is.
    let p = err_from_is_err_and c.from_residual.result c.from_residual.ensures.1 in
    rw (p.1, p.2) (fails_only c.in_err-image.field-0.0 image (c.in_err-image.ensures.only image is))

pub returns-clause-found : goal.returns-clause-found
returns-clause-found c =
    let watch : c.in_ok-board.board.watch ≡ c.args.watch.now = c.in_ok-board.ensures.watch ∙ c.in_ok-try_clone.ensures in
    record {
      image = c.in_ok-image.image;
      spelled = c.in_ok-image.ensures.found;
      incarnation_is = refl;
      watch_is = c.fill.ensures.watch ∙ watch;
      windows = λ i. c.fill.ensures.windows i
          ∙ from_empty c.in_ok-board.board.watch (window_of c.in_ok-board.board) (pairs_from 0 c.as_slice.result.now) c.in_ok-board.ensures.empty i
          ∙ ap (λ (w : Watch). window w (pairs_from 0 c.as_slice.result.now) i) watch
          ∙ ap (λ (v : List Entry). window c.args.watch.now (pairs_from 0 v) i) c.as_slice.ensures;
      unmarked = c.fill.ensures.unmarked c.in_ok-board.ensures.unmarked;
    }
