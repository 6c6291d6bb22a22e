use Rattle.std.proofs.Common.{◌≡◌, ◌<◌, ℕ, List, length, sym, ap, ◌∙◌, arith}
use Rattle.std.specs.Prelude.{not}
use Rattle.std.specs.List.{filter}
use Rattle.mon_window.specs.Top.{rising}
use Rattle.mon_window.specs.Window.{Window, Samples}
use Rattle.mon_board.specs.Board.{Board, window_of, is_marked}
use Rattle.mon_board.specs.Marks.{Marks, marked_in}
use Rattle.mon_board.specs.Owed.{next_above, owed_in}
use Rattle.mon_board.specs.Watch.{size_of}
use Rattle.mon_board.proofs.Boards.{set_at, set_at_is}
use Rattle.mon_board.proofs.Marked.{marks_at, marks_at_is, same_number, unmarked_rising}
use Rattle.mon_board.proofs.board.Board.owed.Goals as goal

pub returns : goal.returns
returns c =
    let slot = c.args.slot in
    let after = c.args.after in
    let n = size_of c.self.inside.watch in
    let ws = c.self.inside.windows.items in
    let ms = c.self.inside.marks.items in
    let i = c.from-place.result in
    let w = c.index.result.now in
    let m = c.index-2.result.now in
    let same : i ≡ c.args.instance = c.from-place.ensures in
    let number : length c.args.self.now.watch.instances ≡ length c.self.inside.watch.instances = ap (λ (b : Board). length b.watch.instances) (sym c.self.view_is) in
    let lt : i < length ws = omega (arith, same, c.requires.instance, number, c.self.invariant.0.number) in
    let below : i < length ms = omega (arith, lt, same_number n ws ms c.self.invariant.1) in
    let items : w.items ≡ set_at ws i = ap (λ (v : Window). v.items) c.index.ensures ∙ sym (set_at_is ws i w lt) in
    let marks : m.items ≡ marks_at ms i = ap (λ (v : Marks). v.items) c.index-2.ensures ∙ sym (marks_at_is ms i m below) in
    c.first_unmarked.ensures
    ∙ ap (λ (l : List ℕ). next_above after (filter (λ s. not (marked_in slot s m.items)) l)) (c.items.ensures.items ∙ ap (λ (a : Samples). rising a) items)
    ∙ ap (next_above after) (unmarked_rising slot m.items (marks_at ms i) (set_at ws i) marks)
    ∙ (λ j. next_above after (rising (owed_in (window_of (c.self.view_is j)) (is_marked (c.self.view_is j) slot) (same j))))
