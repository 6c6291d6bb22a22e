use Rattle.std.proofs.Common.{◌≡◌, ◌<◌, ◌≤◌, ℕ, length, List, get_or, refl, subst, sym, arith, rules}
use Rattle.std.specs.Prelude.{vec_capacity}
use Rattle.std.specs.Vec.{with_items}
use Rattle.std.proofs.lemmas.List.{get_or_default}
use Rattle.mon_board.specs.Each.{AreChanged}
use Rattle.mon_board.specs.Marks.{Marks, AreCleared}
use Rattle.mon_board.proofs.Entries.{IsCleared, cleared_all}
use Rattle.mon_board.proofs.Places.{one_changed, all_changed, written}
use Rattle.mon_board.proofs.marks.Marks.clear.Goals as goal

pub loop-item-preserved : goal.loop-item-preserved
loop-item-preserved c =
    let slot = c.args.slot in
    let i = c.loop-item.item-index in
    let xs = c.loop-item.item-items in
    let x = get_or xs i c.item-item.result in
    let lt : i < length xs = omega (arith, c.loop-item-test.true, c.loop-item.auto.item-index-end) in
    one_changed (λ i. IsCleared slot) c.deref_mut-item-items.result.now xs i x _ c.loop-item.invariant lt (get_or_default xs i c.item-item.result x lt) (refl, c.without-item.ensures)

pub returns : goal.returns
returns c =
    let slot = c.args.slot in
    let xs = c.self.inside.items.items in
    let ys = c.loop-item.item-items in
    let end : length c.deref_mut-item-items.result.now ≤ c.loop-item.item-index = omega (arith, c.loop-item.invariant.number, c.loop-item-test.false, c.loop-item.auto.item-index-end) in
    let changed = all_changed (λ i. IsCleared slot) c.deref_mut-item-items.result.now ys c.loop-item.item-index c.loop-item.invariant end in
    let changed_here : AreChanged (λ i. IsCleared slot) xs ys = subst (λ (l : List (ℕ × ℕ)). AreChanged (λ i. IsCleared slot) l ys) c.deref_mut-item-items.ensures.value changed in
    let long : length ys ≡ length xs = changed_here.number in
    let held : c.self.inside.items.len ≡ length xs = search rules in
    let new : (with_items c.self.inside.items ys).items ≡ ys = written xs ys c.self.inside.items.len held long in
    subst (λ (m : Marks). AreCleared slot m (record { room = vec_capacity c.self.inside.items; items = (with_items c.self.inside.items ys).items })) c.self.view_is
    (subst (λ (l : List (ℕ × ℕ)). AreCleared slot (record { room = vec_capacity c.self.inside.items; items = xs }) (record { room = vec_capacity c.self.inside.items; items = l })) (sym new)
    (cleared_all slot (vec_capacity c.self.inside.items) xs ys changed_here))
