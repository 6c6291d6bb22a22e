use Rattle.std.proofs.Common.{rules}
use Rattle.std.proofs.lemmas.Fn.{always_returns_same}
use Rattle.mon_board.specs.Instance.{instance_cmp, named}
use Rattle.mon_app.proofs.Search.{finds}
use Rattle.mon_app.proofs.table.find.Goals as goal

pub returns-clause-found : goal.returns-clause-found
returns-clause-found c = λ sorted.
    let facts = c.binary_search_by.ensures in
    let found = facts.position (λ r. instance_cmp r.instance (named c.args.engine.now c.args.name.now)) (always_returns_same _ _ _ (λ a r f called. search rules)) in
    finds (λ r. r.instance) (named c.args.engine.now c.args.name.now) c.args.rows.now _ sorted facts.bound found
