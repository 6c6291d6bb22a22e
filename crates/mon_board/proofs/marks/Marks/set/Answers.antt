use Rattle.std.proofs.Common.{◌≡◌, ◌<◌, ◌*◌, ◌^◌, ◌%◌, ℕ, length, List, get_or, subst, sym, ap, ◌∙◌, arith, rules}
use Rattle.std.specs.List.Sorted.{IsStrictlySortedBy}
use Rattle.std.specs.Ordering.{nat_cmp}
use Rattle.std.specs.List.{insert}
use Rattle.std.specs.Prelude.{◌==◌, ◌||◌, ◌&&◌}
use Rattle.mon_window.specs.Place.{IsPlace}
use Rattle.mon_window.specs.Top.{put}
use Rattle.mon_board.specs.Marks.{Marks, marked_in, samples_in}
use Rattle.mon_board.proofs.Entries.{samples_set, marks_set, samples_put, marks_put}
use Rattle.mon_board.proofs.marks.Marks.set.Goals as goal

pub returns-in-Ok-clause-samples : goal.returns-in-Ok-clause-samples
returns-in-Ok-clause-samples c =
    let slot = c.args.slot in
    let s = c.args.sample.now in
    let xs = c.self.inside.items.items in
    let at = c.in-Ok.at in
    let sorted : IsStrictlySortedBy nat_cmp (samples_in xs) = subst (λ (m : Marks). IsStrictlySortedBy nat_cmp (samples_in m.items)) (sym c.self.view_is) c.requires.rising in
    let same : c.as_slice.result.now ≡ xs = c.as_slice.ensures.value in
    let lt : at < length xs = omega (arith, c.in-Ok.ensures.within, ap length same) in
    let is = subst (λ (l : List (ℕ × ℕ)). (d : ℕ × ℕ) → (get_or l at d).0 ≡ s) same c.in-Ok.ensures.found in
    samples_set slot c.requires.slot xs at s sorted lt is c.index_mut.result.now c.index_mut.ensures.value _ ∙ ap (λ (m : Marks). put nat_cmp s (samples_in m.items)) c.self.view_is

pub returns-in-Ok-clause-marks : goal.returns-in-Ok-clause-marks
returns-in-Ok-clause-marks c = λ k t.
    let slot = c.args.slot in
    let s = c.args.sample.now in
    let xs = c.self.inside.items.items in
    let at = c.in-Ok.at in
    let sorted : IsStrictlySortedBy nat_cmp (samples_in xs) = subst (λ (m : Marks). IsStrictlySortedBy nat_cmp (samples_in m.items)) (sym c.self.view_is) c.requires.rising in
    let same : c.as_slice.result.now ≡ xs = c.as_slice.ensures.value in
    let lt : at < length xs = omega (arith, c.in-Ok.ensures.within, ap length same) in
    let is = subst (λ (l : List (ℕ × ℕ)). (d : ℕ × ℕ) → (get_or l at d).0 ≡ s) same c.in-Ok.ensures.found in
    marks_set slot c.requires.slot xs at s sorted lt is c.index_mut.result.now c.index_mut.ensures.value k t
    ∙ ap (λ (m : Marks). marked_in k t m.items || ((k == slot) && (t == s))) c.self.view_is

pub returns-in-Err-clause-samples : goal.returns-in-Err-clause-samples
returns-in-Err-clause-samples c =
    let slot = c.args.slot in
    let s = c.args.sample.now in
    let xs = c.self.inside.items.items in
    let at = c.in-Err.at in
    let place : IsPlace nat_cmp (samples_in xs) s at = subst (λ (l : List (ℕ × ℕ)). IsPlace nat_cmp (samples_in l) s at) c.as_slice.ensures.value c.in-Err.ensures.absent in
    let new : c.insert.new.self.items ≡ insert xs at (s, 1 * 2 ^ slot % 2 ^ 16) = search rules in
    ap samples_in new ∙ samples_put slot c.requires.slot xs at s place _ ∙ ap (λ (m : Marks). put nat_cmp s (samples_in m.items)) c.self.view_is

pub returns-in-Err-clause-marks : goal.returns-in-Err-clause-marks
returns-in-Err-clause-marks c = λ k t.
    let slot = c.args.slot in
    let s = c.args.sample.now in
    let xs = c.self.inside.items.items in
    let at = c.in-Err.at in
    let place : IsPlace nat_cmp (samples_in xs) s at = subst (λ (l : List (ℕ × ℕ)). IsPlace nat_cmp (samples_in l) s at) c.as_slice.ensures.value c.in-Err.ensures.absent in
    let new : c.insert.new.self.items ≡ insert xs at (s, 1 * 2 ^ slot % 2 ^ 16) = search rules in
    ap (λ (l : List (ℕ × ℕ)). marked_in k t l) new ∙ marks_put slot c.requires.slot xs at s place k t
    ∙ ap (λ (m : Marks). marked_in k t m.items || ((k == slot) && (t == s))) c.self.view_is
