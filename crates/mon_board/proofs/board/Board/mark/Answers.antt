use Rattle.std.proofs.Common.{◌≡◌, ◌<◌, true, length, sym, ap, ◌∙◌, subst, arith, refl}
use Rattle.std.specs.Prelude.{◌==◌, ◌&&◌, ◌||◌}
use Rattle.std.specs.FinSet as finset
use Rattle.mon_window.specs.Window.{Window, Samples}
use Rattle.mon_board.specs.Board.{Board, is_marked, window_of}
use Rattle.mon_board.specs.Marks.{AreMarks}
use Rattle.mon_board.specs.Watch.{size_of, epoch_of}
use Rattle.mon_board.proofs.Boards.{set_at, set_at_is}
use Rattle.mon_board.proofs.Marked.{same_number, marks_of_window, few_in, has_room, one_marked, still_marks, marks_marked}
use Rattle.mon_board.proofs.board.Board.mark.Goals as goal

pub set-requires-clause-room : goal.set-requires-clause-room
set-requires-clause-room c =
    let n = size_of c.self.inside.watch in
    let ws = c.self.inside.windows.items in
    let ms = c.self.inside.marks.items in
    let i = c.from-place.result in
    let s = c.args.sample.now in
    let w = c.index.result.now in
    let old = c.index_mut.result.now in
    let number : length c.args.self.now.watch.instances ≡ length c.self.inside.watch.instances = ap (λ (b : Board). length b.watch.instances) (sym c.self.view_is) in
    let lt : i < length ws = omega (arith, c.from-place.ensures, c.requires.instance, number, c.self.invariant.0.number) in
    let items : w.items ≡ set_at ws i = ap (λ (v : Window). v.items) c.index.ensures ∙ sym (set_at_is ws i w lt) in
    let there : finset.contains (set_at ws i) s ≡ true = ap (λ (a : Samples). finset.contains a s) (sym items) ∙ sym c.stands_in.ensures ∙ c.if-stands_in.true in
    let are : AreMarks (n i) (set_at ws i) old = subst (AreMarks (n i) (set_at ws i)) (sym c.index_mut.ensures.value) (marks_of_window n ws ms c.self.invariant.1 i old lt) in
    has_room (n i) (set_at ws i) (few_in (n i) (epoch_of c.self.inside.watch i) (set_at ws i) (c.self.invariant.0.whole i)) old are s there

pub invariant_of-self : goal.invariant_of-self
invariant_of-self c =
    let n = size_of c.self.inside.watch in
    let ws = c.self.inside.windows.items in
    let ms = c.self.inside.marks.items in
    let i = c.from-place.result in
    let s = c.args.sample.now in
    let w = c.index.result.now in
    let old = c.index_mut.result.now in
    let new = c.set.new.self in
    let number : length c.args.self.now.watch.instances ≡ length c.self.inside.watch.instances = ap (λ (b : Board). length b.watch.instances) (sym c.self.view_is) in
    let lt : i < length ws = omega (arith, c.from-place.ensures, c.requires.instance, number, c.self.invariant.0.number) in
    let below : i < length ms = omega (arith, lt, same_number n ws ms c.self.invariant.1) in
    let items : w.items ≡ set_at ws i = ap (λ (v : Window). v.items) c.index.ensures ∙ sym (set_at_is ws i w lt) in
    let there : finset.contains (set_at ws i) s ≡ true = ap (λ (a : Samples). finset.contains a s) (sym items) ∙ sym c.stands_in.ensures ∙ c.if-stands_in.true in
    let are : AreMarks (n i) (set_at ws i) old = subst (AreMarks (n i) (set_at ws i)) (sym c.index_mut.ensures.value) (marks_of_window n ws ms c.self.invariant.1 i old lt) in
    let more : AreMarks (n i) (set_at ws i) new = one_marked (n i) (set_at ws i) (few_in (n i) (epoch_of c.self.inside.watch i) (set_at ws i) (c.self.invariant.0.whole i)) old are s there new c.set.ensures.samples c.set.ensures.room in
    (c.self.invariant.0, still_marks n ws ms i below new ws c.self.invariant.1 refl (λ j ne. refl) more)

pub returns-then-stands_in-clause-marks : goal.returns-then-stands_in-clause-marks
returns-then-stands_in-clause-marks c = λ k j t.
    let n = size_of c.self.inside.watch in
    let ws = c.self.inside.windows.items in
    let ms = c.self.inside.marks.items in
    let i = c.from-place.result in
    let s = c.args.sample.now in
    let w = c.index.result.now in
    let old = c.index_mut.result.now in
    let number : length c.args.self.now.watch.instances ≡ length c.self.inside.watch.instances = ap (λ (b : Board). length b.watch.instances) (sym c.self.view_is) in
    let lt : i < length ws = omega (arith, c.from-place.ensures, c.requires.instance, number, c.self.invariant.0.number) in
    let below : i < length ms = omega (arith, lt, same_number n ws ms c.self.invariant.1) in
    let items : w.items ≡ set_at ws i = ap (λ (v : Window). v.items) c.index.ensures ∙ sym (set_at_is ws i w lt) in
    let there : finset.contains (set_at ws i) s ≡ true = ap (λ (a : Samples). finset.contains a s) (sym items) ∙ sym c.stands_in.ensures ∙ c.if-stands_in.true in
    marks_marked n ws ms i below old c.set.new.self c.index_mut.ensures.value c.args.slot s there c.set.ensures.marks k j t
    ∙ (λ m. is_marked (c.self.view_is m) k j t || (((k == c.args.slot) && (j == c.from-place.ensures m)) && ((t == s) && finset.contains (window_of (c.self.view_is m) j) t)))
