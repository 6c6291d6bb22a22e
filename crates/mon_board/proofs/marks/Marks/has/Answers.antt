use Rattle.std.proofs.Common.{◌≡◌, ◌<◌, ℕ, length, List, subst, sym, ap, ◌∙◌, arith}
use Rattle.std.specs.List.Sorted.{IsStrictlySortedBy}
use Rattle.std.specs.Ordering.{nat_cmp}
use Rattle.std.specs.Prelude.{nat_eq}
use Rattle.std.proofs.lemmas.Nat.Bits.{shr_and_one}
use Rattle.mon_board.specs.Marks.{Marks, marked_in, samples_in}
use Rattle.mon_board.proofs.Entries.{has_here, not_here}
use Rattle.mon_board.proofs.marks.Marks.has.Goals as goal

pub returns-in-Ok : goal.returns-in-Ok
returns-in-Ok c =
    let slot = c.args.slot in
    let s = c.args.sample.now in
    let xs = c.self.inside.items.items in
    let at = c.in-Ok.at in
    let small : slot < 16 = c.requires.slot in
    let sorted : IsStrictlySortedBy nat_cmp (samples_in xs) = subst (λ (m : Marks). IsStrictlySortedBy nat_cmp (samples_in m.items)) (sym c.self.view_is) c.requires.rising in
    let ys : List (ℕ × ℕ) = c.as_slice.result.now in
    let same : ys ≡ xs = c.as_slice.ensures.value in
    let lt : at < length xs = omega (arith, c.in-Ok.ensures.within, ap length same) in
    let is = subst (λ (l : List (ℕ × ℕ)). (d : ℕ × ℕ) → (Rattle.std.proofs.Common.get_or l at d).0 ≡ s) same c.in-Ok.ensures.found in
    ap (λ n. nat_eq n 1) (shr_and_one c.index.result.now.1 slot)
    ∙ has_here slot small xs at s sorted lt is c.index.result.now c.index.ensures slot ∙ ap (λ (m : Marks). marked_in slot s m.items) c.self.view_is

pub returns-in-Err : goal.returns-in-Err
returns-in-Err c =
    let slot = c.args.slot in
    let s = c.args.sample.now in
    let small : slot < 16 = c.requires.slot in
    sym (ap (λ (m : Marks). marked_in slot s m.items) (sym c.self.view_is)
    ∙ ap (λ (l : List (ℕ × ℕ)). marked_in slot s l) (sym c.as_slice.ensures.value)
    ∙ not_here slot small c.as_slice.result.now c.in-Err.field-0 s c.in-Err.ensures.absent slot)
