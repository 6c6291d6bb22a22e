use native.Mathlib.Omega.{arith}
use Rattle.std.proofs.Common.{◌≡◌, ◌≤◌, ◌<◌, ◌+◌, ◌∙◌, ap, sym, subst, Bool, true, false, List, Some, length, rules, refl}
use Rattle.std.specs.Prelude.{IsTrue, slice_get, slice_index_or, slice_set, vec_len}
use Rattle.std.proofs.lemmas.Option.{slice_get-get_or}
use Rattle.mon_web.specs.Slot.{IsLate, free_slot}
use Rattle.mon_web.specs.declared.slot.Slot.{Slot}
use Rattle.mon_web.specs.declared.table.Table.{Table}
use Rattle.mon_web.proofs.Swept.{Swept, swept_all, swept_start, swept_late, swept_other}
use Rattle.mon_web.proofs.table.Table.close_late.Goals as goal
use Rattle.mon_web.proofs.table.Table.close_late.Goals.{then-is_late, else-is_late}

pub returns-clause-none : goal.returns-clause-none
returns-clause-none g c =
    let swept = c.loop-place.invariant.1 in
    let many : vec_len c.args.self.now.slots ≡ length c.args.self.now.slots.items = search rules in
    let new = c.loop-place.self.slots.items in
    let same : length new ≡ length c.args.self.now.slots.items = swept.others.many in
    let end_ : c.len-place-end.result ≤ c.loop-place.place = c.loop-place-test.false in
    let it : c.len-place-end.result ≡ vec_len c.args.self.now.slots = c.len-place-end.ensures in
    swept_all c.args.now c.loop-place.place c.args.self.now.slots.items new (omega arith) swept

pub returns-clause-others : goal.returns-clause-others
returns-clause-others g c = c.loop-place.invariant.1.others

pub loop-place-init : goal.loop-place-init
loop-place-init g c = (refl, swept_start c.args.now c.args.self.now.slots.items)

pub loop-place-preserved : goal.loop-place-preserved
loop-place-preserved g c =
    let (pages, swept) = c.loop-place.invariant in
    let old = c.args.self.now.slots.items in
    let new = c.loop-place.self.slots.items in
    let place = c.loop-place.place in
    let many : vec_len c.args.self.now.slots ≡ length old = search rules in
    let same : length new ≡ length old = swept.others.many in
    let before : place < c.len-place-end.result = c.loop-place-test.true in
    let end_ : c.len-place-end.result ≡ vec_len c.args.self.now.slots = c.len-place-end.ensures in
    let within : place < length new = omega arith in
    elim c.if-is_late.branch as (λ _. (c.if-is_late.self.pages ≡ c.args.self.now.pages) × Swept c.args.now (place + 1) old c.if-is_late.self.slots.items) [
      | then-is_late w ↦ (
          let at = slice_get-get_or new place free_slot within in
          let late = (c.is_late.ensures.late (slice_index_or new place free_slot) at).0 w.if-is_late.true in
          let slots : c.if-is_late.self.slots.items ≡ slice_set new place free_slot = ap (λ (t : Table _). t.slots.items) w.self-is ∙ w.clear.ensures.slots in (
            ap (λ (t : Table _). t.pages) w.self-is ∙ w.clear.ensures.pages ∙ pages,
            subst (λ (s : List Slot). Swept c.args.now (place + 1) old s) (sym slots) (swept_late c.args.now place old new (slice_index_or new place free_slot) within at late swept),
          ))
      | else-is_late w ↦ (
          let stays : (slot : Slot) → slice_get new place ≡ Some slot → ¬ (IsLate c.args.now slot) =
          λ slot at over. not_both c.is_late.result w.if-is_late.false ((c.is_late.ensures.late slot at).1 over) in
          let slots : c.if-is_late.self.slots.items ≡ new = ap (λ (t : Table _). t.slots.items) w.self-is in (
            ap (λ (t : Table _). t.pages) w.self-is ∙ pages,
            subst (λ (s : List Slot). Swept c.args.now (place + 1) old s) (sym slots) (swept_other c.args.now place old new stays swept),
          ))
    ]
  where
    not_both : (b : Bool) → b ≡ false → IsTrue b → ⊥
    not_both b e x = let no : false ≡ true = sym e ∙ x in cc
