use Rattle.std.proofs.Common.{◌≡◌, ◌≤◌, ◌<◌, List, map, pos, length, is_lt, sym, ap, ◌∙◌, subst, arith, rules as by_rules}
use Rattle.std.specs.List.Sorted.{IsStrictlySortedBy}
use Rattle.std.proofs.lemmas.List.{map-id}
use Rattle.mon_alarms.specs.Rule.{Rule}
use Rattle.mon_board.specs.RuleOrder.{rule_cmp}
use Rattle.mon_board.proofs.Order.{rule_cmp_total}
use Rattle.mon_board.proofs.Rises.{not_rising, rises_all}
use Rattle.mon_board.proofs.watch.rules_rise.Goals as goal

pub returns-then-not-is_lt : goal.returns-then-not-is_lt
returns-then-not-is_lt c =
    let rs : List Rule = c.args.rules.now in
    let i = c.loop-i.i in
    let from : 1 ≤ i = omega arith in
    let lt : i < length rs = omega arith in
    let all : map (λ (r : Rule). r) rs ≡ rs = map-id rs in (
      λ t. absurd (search by_rules),
      λ sorted. absurd (not_rising (λ (r : Rule). r) rule_cmp rs i c.index-rules-i-in-loop-i.result c.index-rules-i.result from lt
          ((λ j. is_lt (rule_cmp (sym c.index-rules-i.is j) (sym c.index-rules-i-in-loop-i.is j))) ∙ sym (c.is_lt.ensures ∙ ap is_lt c.compare.ensures) ∙ c.if-not-is_lt.true) (subst (IsStrictlySortedBy rule_cmp) (sym all) sorted)),
    )

pub returns : goal.returns
returns c =
    let rs : List Rule = c.args.rules.now in
    let end : length rs ≤ c.loop-i.i = omega arith in
    let none : Rule = record { instance = 0; rising = pos 0; falling = pos 0 } in
    let all : map (λ (r : Rule). r) rs ≡ rs = map-id rs in
    (λ t. subst (IsStrictlySortedBy rule_cmp) all (rises_all (λ (r : Rule). r) rule_cmp rs rule_cmp_total none (λ k d lt. c.loop-i.invariant k d (omega (arith, end, lt)))), λ sorted. search by_rules)
