-- The order of alarm rules, and which a watch may have.
use Rattle.std.specs.Prelude.{ℕ, ◌≤◌, ◌<◌, List, length, All}
use Rattle.std.specs.declared.cmp.Ordering.{Ordering}
use Rattle.std.specs.Ordering.{nat_cmp, int_cmp, on, then_cmp}
use Rattle.std.specs.List.Sorted.{IsStrictlySortedBy}
use Rattle.mon_alarms.specs.Rule.{Rule}

-- by the instance's number, the rising threshold and the falling one
unfoldable pub rule_cmp : Rule → Rule → Ordering
rule_cmp = then_cmp (then_cmp (on (λ r. r.instance) nat_cmp) (on (λ r. r.rising) int_cmp))
    (on (λ r. r.falling) int_cmp)

-- at most 256 rules, each on one of this many instances, rising, and so none twice
pub record AreRules (instances : ℕ) (rules : List Rule) : Type 0 where
  pub few : length rules ≤ 256
  pub known : All (λ r. r.instance < instances) rules
  pub rising : IsStrictlySortedBy rule_cmp rules
