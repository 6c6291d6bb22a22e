use Rattle.std.proofs.Common.{ap, ◌∙◌, drop}
use Rattle.std.specs.List.{remove}
use Rattle.mon_window.proofs.Rows.{remove-behind}
use Rattle.mon_window.proofs.row.Row.remove.Goals as goal

pub returns-clause-items : goal.returns-clause-items
returns-clause-items c =
    let start = c.self.inside.start in
    let all = c.self.inside.all.items in
    ap (drop start) c.remove.ensures.items ∙ remove-behind start c.args.at all c.self.invariant ∙ ap (λ row. remove row.items c.args.at) c.self.view_is
