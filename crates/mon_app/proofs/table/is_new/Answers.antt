use Rattle.std.proofs.Common.{◌≡◌, true, false, not, ◌||◌, ap, sym, ◌∙◌}
use Rattle.std.specs.FinSet.{contains}
use Rattle.mon_board.specs.Instance.{named}
use Rattle.mon_app.specs.Windows.{instances}
use Rattle.mon_app.proofs.Counting.{is_one_of, held, not_true, not_false}
use Rattle.mon_app.proofs.Windows.{sorted_rows}
use Rattle.mon_app.proofs.table.is_new.Goals as goal

pub returns-then-is_err : goal.returns-then-is_err
returns-then-is_err c = λ n taken is.
    let i = named c.args.engine.now c.args.name.now in
    let found = held n taken c.args.rows.now is i c.find.result c.find.ensures.within (c.find.ensures.found (sorted_rows n taken c.args.rows.now is)) in
    let absent : contains (instances taken) i ≡ false = not_true _ (sym found ∙ sym c.is_err.ensures.value ∙ c.if-is_err.true) in
    ap not (c.is_among.ensures ∙ ap (λ b. b || is_one_of c.args.fresh.now c.args.name.now) (sym absent))

pub returns-else-is_err : goal.returns-else-is_err
returns-else-is_err c = λ n taken is.
    let i = named c.args.engine.now c.args.name.now in
    let found = held n taken c.args.rows.now is i c.find.result c.find.ensures.within (c.find.ensures.found (sorted_rows n taken c.args.rows.now is)) in
    let has : contains (instances taken) i ≡ true = not_false _ (sym found ∙ sym c.is_err.ensures.value ∙ c.if-is_err.false) in
    c.if-is_err.false ∙ sym (ap not (ap (λ b. b || is_one_of c.args.fresh.now c.args.name.now) has))
