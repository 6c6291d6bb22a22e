use Rattle.std.proofs.Common.{rules}
use Rattle.std.proofs.lemmas.Fn.{always_returns_same}
use Rattle.std.specs.Ordering.{nat_cmp}
use Rattle.mon_board.proofs.Stands.{if_found, if_placed}
use Rattle.mon_board.proofs.marks.place.Goals as goal

pub returns-clause-found : goal.returns-clause-found
returns-clause-found c =
    let facts = c.binary_search_by.ensures in
    if_found c.args.items.now c.args.sample.now c.binary_search_by.result
    (facts.position (λ x. nat_cmp x.0 c.args.sample.now) (always_returns_same _ _ _ (λ a r f called. search rules)))

pub returns-clause-absent : goal.returns-clause-absent
returns-clause-absent c =
    let facts = c.binary_search_by.ensures in
    if_placed c.args.items.now c.args.sample.now c.binary_search_by.result c.requires facts.bound
    (facts.position (λ x. nat_cmp x.0 c.args.sample.now) (always_returns_same _ _ _ (λ a r f called. search rules)))
