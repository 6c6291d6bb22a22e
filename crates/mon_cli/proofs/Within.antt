-- Numbers of options that are within their bounds.
use Rattle.std.proofs.Common.{◌≡◌, ◌≤◌, ◌<◌, ◌^◌, ◌∙◌, ℕ, List, Option, Some, None, ap, arith, subst, sym, unwrap_or}
use Rattle.std.specs.Prelude.{IfSome}
use Rattle.mon_cli.specs.Invocation.{IsBetween, IsNumberOr}

-- the number that an option has, or the one that it has if it is left out
pub within : (low high other : ℕ) (o : Option (List ℕ)) (n : ℕ) → high < 2 ^ 32 → low ≤ other → other ≤ high → IfSome o (IsBetween low high) → IsNumberOr 32 other o n
    → (low ≤ n) × (n ≤ high)
within low high other None n small least most has (read, none, is) =
    let plain : n ≡ other = is ∙ ap (λ (r : Option ℕ). unwrap_or r other) none in
    subst (λ (m : ℕ). (low ≤ m) × (m ≤ high)) (sym plain) (least, most)
within low high other (Some t) n small least most has (Some x, given, is) = subst (λ (m : ℕ). (low ≤ m) × (m ≤ high)) (sym (is ∙ given.1)) (has.1, has.2)
within low high other (Some t) n small least most has (None, never, is) = absurd (never (has.0, omega (arith, has.2, small)))
