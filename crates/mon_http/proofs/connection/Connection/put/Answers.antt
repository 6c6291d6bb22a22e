use native.Mathlib.Omega.{arith}
use Rattle.std.proofs.Common.{◌≡◌, ◌≤◌, ◌∙◌, ap, sym, subst, ℕ, List, length, drop, rules}
use Rattle.std.specs.Prelude.{vec_len}
use Rattle.mon_http.specs.Front.{skip_line_ends}
use Rattle.mon_http.proofs.Fronts.{skip_again, scanned_start, bound_removed}
use Rattle.mon_http.proofs.connection.Connection.put.Goals as goal

pub invariant_of-self : goal.invariant_of-self
invariant_of-self c =
    let items = c.remove_head.new.input.items in
    let old = c.self.inside.input.items in
    let rest : items ≡ skip_line_ends (drop c.args.len old) = c.remove_head.ensures.rest in
    let new_len : vec_len c.remove_head.new.input ≡ length items = search rules in
    let old_len : vec_len c.self.inside.input ≡ length old = search rules in
    let bound = bound_removed old c.args.len 8192 (subst (λ (n : ℕ). n ≤ 8192) old_len c.self.invariant.0) in (
      subst (λ (n : ℕ). n ≤ 8192) (sym new_len) (subst (λ (s : List ℕ). length s ≤ 8192) (sym rest) bound),
      subst (λ (n : ℕ). 8192 ≤ n) (sym c.remove_head.ensures.capacity) c.self.invariant.1,
      omega arith,
      omega arith,
      ap skip_line_ends rest ∙ skip_again (drop c.args.len old) ∙ sym rest,
      scanned_start items,
    )
