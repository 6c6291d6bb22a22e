use Rattle.mon_alarms.specs.Rule.{Rule}
use Rattle.mon_board.specs.RuleOrder.{rule_cmp}
use Rattle.mon_board.proofs.Rises.{RisesTo}
use Rattle.mon_board.proofs.watch.rules_rise.Given as goal

-- each rule so far comes before the next
abbrev pub invariant-loop-i : goal.invariant-loop-i
invariant-loop-i l = RisesTo (λ (r : Rule). r) rule_cmp l.rules l.i
