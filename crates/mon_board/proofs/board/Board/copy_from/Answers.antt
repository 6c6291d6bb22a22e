use Rattle.std.proofs.Common.{◌≡◌, ℕ, List, length, sym, ap, ◌∙◌, subst, rules}
use Rattle.std.specs.Prelude.{◌&&◌}
use Rattle.std.specs.FinSet as finset
use Rattle.std.specs.Vec.{with_items}
use Rattle.mon_window.specs.Window.{Window}
use Rattle.mon_board.specs.Board.{Board, AreWindows, AreAllMarks, sets_of, is_marked, window_of}
use Rattle.mon_board.specs.Each.{AreChanged}
use Rattle.mon_board.specs.Marks.{Marks, AreKept, marked_in}
use Rattle.mon_board.specs.Owed.{kept_marks}
use Rattle.mon_board.specs.Watch.{Watch, size_of, epoch_of}
use Rattle.mon_board.proofs.Boards.{set_at}
use Rattle.mon_board.proofs.Marked.{marks_at, all_kept, marks_kept, as_kept}
use Rattle.mon_board.proofs.Places.{written}
use Rattle.mon_board.proofs.board.Board.copy_from.Goals as goal

pub invariant_of-self : goal.invariant_of-self
invariant_of-self c =
    let n = size_of c.self.inside.watch in
    let k = length c.self.inside.watch.instances in
    let m = epoch_of c.self.inside.watch in
    let ws = c.self.inside.windows.items in
    let theirs = c.other.inside.windows.items in
    let us = c.copy_each.new.windows in
    let ms = c.self.inside.marks.items in
    let ns = c.keep_each.new.marks in
    let same : c.other.inside.watch ≡ c.self.inside.watch = ap (λ (b : Board). b.watch) c.other.view_is ∙ c.requires ∙ sym (ap (λ (b : Board). b.watch) c.self.view_is) in
    let copies : us ≡ theirs = c.copy_each.ensures ∙ c.deref.ensures.value in
    let are : AreWindows n m k us = subst (AreWindows n m k) (sym copies) (subst (λ (w : Watch). AreWindows (size_of w) (epoch_of w) (length w.instances) theirs) same c.other.invariant.0) in
    let long : length us ≡ length ws = are.number ∙ sym c.self.invariant.0.number in
    let held : c.self.inside.windows.len ≡ length ws = search rules in
    let new : (with_items c.self.inside.windows us).items ≡ us = written ws us c.self.inside.windows.len held long in
    let kept : AreChanged (λ i. AreKept (set_at us i)) ms ns = subst (λ (l : List Window). AreChanged (λ i. AreKept (set_at l i)) ms ns) (c.deref-2.ensures.value ∙ new)
    (subst (λ (l : List Marks). AreChanged (λ i. AreKept (set_at c.deref-2.result.now i)) l ns) c.deref_mut-2.ensures.value c.keep_each.ensures) in
    let held_marks : c.self.inside.marks.len ≡ length ms = search rules in
    let new_marks : (with_items c.self.inside.marks ns).items ≡ ns = written ms ns c.self.inside.marks.len held_marks kept.number in (
      subst (AreWindows n m k) (sym new) are,
      subst (λ (l : List Window). AreAllMarks n (sets_of l) (with_items c.self.inside.marks ns).items) (sym new)
          (subst (AreAllMarks n (sets_of us)) (sym new_marks) (all_kept n ws us ms ns c.self.invariant.1 long kept)),
    )

pub returns-clause-windows : goal.returns-clause-windows
returns-clause-windows c =
    let ws = c.self.inside.windows.items in
    let theirs = c.other.inside.windows.items in
    let us = c.copy_each.new.windows in
    let same : c.other.inside.watch ≡ c.self.inside.watch = ap (λ (b : Board). b.watch) c.other.view_is ∙ c.requires ∙ sym (ap (λ (b : Board). b.watch) c.self.view_is) in
    let copies : us ≡ theirs = c.copy_each.ensures ∙ c.deref.ensures.value in
    let long : length us ≡ length ws =
    ap length copies ∙ c.other.invariant.0.number ∙ ap (λ (w : Watch). length w.instances) same ∙ sym c.self.invariant.0.number in
    let held : c.self.inside.windows.len ≡ length ws = search rules in
    ap sets_of (written ws us c.self.inside.windows.len held long ∙ copies) ∙ ap (λ (b : Board). b.windows) c.other.view_is

pub returns-clause-marks : goal.returns-clause-marks
returns-clause-marks c = λ slot.
    let n = size_of c.self.inside.watch in
    let ws = c.self.inside.windows.items in
    let theirs = c.other.inside.windows.items in
    let us = c.copy_each.new.windows in
    let ms = c.self.inside.marks.items in
    let ns = c.keep_each.new.marks in
    let same : c.other.inside.watch ≡ c.self.inside.watch = ap (λ (b : Board). b.watch) c.other.view_is ∙ c.requires ∙ sym (ap (λ (b : Board). b.watch) c.self.view_is) in
    let held : c.self.inside.windows.len ≡ length ws = search rules in
    let long : length us ≡ length ws = ap length (c.copy_each.ensures ∙ c.deref.ensures.value)
    ∙ c.other.invariant.0.number ∙ ap (λ (w : Watch). length w.instances) same ∙ sym c.self.invariant.0.number in
    let new : (with_items c.self.inside.windows us).items ≡ us = written ws us c.self.inside.windows.len held long in
    let kept : AreChanged (λ i. AreKept (set_at us i)) ms ns = subst (λ (l : List Window). AreChanged (λ i. AreKept (set_at l i)) ms ns) (c.deref-2.ensures.value ∙ new)
    (subst (λ (l : List Marks). AreChanged (λ i. AreKept (set_at c.deref-2.result.now i)) l ns) c.deref_mut-2.ensures.value c.keep_each.ensures) in
    let held_marks : c.self.inside.marks.len ≡ length ms = search rules in
    let new_marks : (with_items c.self.inside.marks ns).items ≡ ns = written ms ns c.self.inside.marks.len held_marks kept.number in
    let after = λ (k i s : ℕ). marked_in k s (marks_at (with_items c.self.inside.marks ns).items i) in
    let windows = set_at (with_items c.self.inside.windows us).items in
    as_kept n ws ms c.self.invariant.1 after windows (λ k i s.
    ap (λ (l : List Marks). marked_in k s (marks_at l i)) new_marks ∙ marks_kept n ws us ms ns c.self.invariant.1 long kept k i s
    ∙ (λ j. marked_in k s (marks_at ms i) && finset.contains (set_at (sym new j) i) s)) slot
    ∙ (λ j. kept_marks (window_of (c.self.view_is j)) windows (is_marked (c.self.view_is j) slot))
