use Rattle.std.proofs.Common.{◌≡◌, List, length, ap, ◌∙◌, subst, rules, refl}
use Rattle.std.specs.Prelude.{◌==◌, ◌&&◌, not}
use Rattle.std.specs.Vec.{with_items}
use Rattle.mon_board.specs.Board.{Board, is_marked}
use Rattle.mon_board.specs.Each.{AreChanged}
use Rattle.mon_board.specs.Marks.{Marks, AreCleared, marked_in}
use Rattle.mon_board.specs.Watch.{size_of}
use Rattle.mon_board.proofs.Marked.{marks_at, marks_cleared}
use Rattle.mon_board.proofs.Places.{written}
use Rattle.mon_board.proofs.board.Board.unmark_all.Goals as goal

pub returns-clause-marks : goal.returns-clause-marks
returns-clause-marks c = λ k j s.
    let slot = c.args.slot in
    let n = size_of c.self.inside.watch in
    let ws = c.self.inside.windows.items in
    let ms = c.self.inside.marks.items in
    let ns = c.clear_each.new.marks in
    let changed : AreChanged (λ i. AreCleared slot) ms ns = subst (λ (l : List Marks). AreChanged (λ i. AreCleared slot) l ns) c.deref_mut.ensures.value c.clear_each.ensures in
    let held : c.self.inside.marks.len ≡ length ms = search rules in
    let new : (with_items c.self.inside.marks ns).items ≡ ns = written ms ns c.self.inside.marks.len held changed.number in
    ap (λ (l : List Marks). marked_in k s (marks_at l j)) new ∙ marks_cleared n ws ws ms ns c.self.invariant.1 refl slot changed k j s
    ∙ ap (λ (b : Board). is_marked b k j s && not (k == slot)) c.self.view_is
