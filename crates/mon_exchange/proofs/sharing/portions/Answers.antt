use Rattle.std.proofs.Common.{◌≡◌, [], ◌≤◌, ℕ, List, length, sym, ap, subst, ◌∙◌, arith}
use Rattle.std.specs.Prelude.{All}
use Rattle.std.specs.List.Sorted.{IsStrictlySortedBy}
use Rattle.std.specs.Ordering.{nat_cmp}
use Rattle.std.proofs.lemmas.List.Elements.{All-push}
use Rattle.mon_exchange.specs.declared.sharing.Portion.{Portion}
use Rattle.mon_exchange.specs.Portions.{IsPortion, portion}
use Rattle.mon_exchange.proofs.Above.{sorted_none}
use Rattle.mon_exchange.proofs.sharing.portions.Goals as goal

pub returns-clause-each : goal.returns-clause-each
returns-clause-each c =
    let many = length c.args.board.now.watch.instances in
    let samples = c.new-samples.result in
    let none : samples ≡ [] = c.new-samples.ensures ∙ c.new.ensures.items in
    let few : length samples ≤ 40 = omega (arith, ap length none) in
    subst (λ (l : List Portion). All (IsPortion many) l) (sym c.in_ok-push.ensures.items)
    (All-push (IsPortion many) c.in_ok-portions.portions.items (portion 0 samples) c.in_ok-portions.ensures.each
    (record { instance = c.in_ok-portions.ensures.some; few = few; rising = subst (λ (l : List ℕ). IsStrictlySortedBy nat_cmp l) (sym none) sorted_none }))
