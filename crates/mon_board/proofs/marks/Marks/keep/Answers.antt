use Rattle.std.proofs.Common.{List, ℕ, subst, sym}
use Rattle.std.specs.Prelude.{vec_capacity}
use Rattle.std.specs.List.Sorted.{IsStrictlySortedBy}
use Rattle.std.specs.Ordering.{nat_cmp}
use Rattle.mon_board.specs.Marks.{Marks, AreKept, samples_in}
use Rattle.mon_board.proofs.Entries.{kept_marks}
use Rattle.mon_board.proofs.marks.Marks.keep.Goals as goal

pub returns : goal.returns
returns c =
    let old : Marks = record { room = vec_capacity c.self.inside.items; items = c.self.inside.items.items } in
    let room = vec_capacity c.keep_in.new.items in
    let sorted : IsStrictlySortedBy nat_cmp (samples_in old.items) = subst (λ (m : Marks). IsStrictlySortedBy nat_cmp (samples_in m.items)) (sym c.self.view_is) c.requires in
    subst (λ (m : Marks). AreKept c.args.window.now.items m (record { room = room; items = c.keep_in.new.items.items })) c.self.view_is
    (subst (λ (l : List (ℕ × ℕ)). AreKept c.args.window.now.items old (record { room = room; items = l })) (sym c.keep_in.ensures.items)
    (kept_marks c.args.window.now.items old room sorted c.keep_in.ensures.room))
