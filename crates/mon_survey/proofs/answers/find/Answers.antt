use Rattle.std.proofs.Common.{rules}
use Rattle.std.proofs.lemmas.Fn.{always_returns_same}
use Rattle.mon_survey.specs.declared.answers.Cell.{Cell}
use Rattle.mon_survey.proofs.Cells.{at_index, no_index, search_found, search_none}
use Rattle.mon_survey.proofs.answers.find.Goals as goal

pub returns-in-Ok : goal.returns-in-Ok
returns-in-Ok c =
    let facts = c.binary_search_by_key.ensures in
    at_index c.args.cells.now c.args.key c.in-Ok.place c.index-cells-place.result c.requires
    (search_found c.args.cells.now c.args.key c.in-Ok.place c.binary_search_by_key.result
    (facts.position (λ (p : Cell). p.key) (always_returns_same _ _ _ (λ a r f called. search rules))) facts.bound c.in-Ok.is) c.index-cells-place.is

pub returns-in-Err : goal.returns-in-Err
returns-in-Err c =
    let facts = c.binary_search_by_key.ensures in
    no_index c.args.cells.now c.args.key
    (search_none c.args.cells.now c.args.key _ c.binary_search_by_key.result c.requires
    (facts.position (λ (p : Cell). p.key) (always_returns_same _ _ _ (λ a r f called. search rules))) c.in-Err.is)
