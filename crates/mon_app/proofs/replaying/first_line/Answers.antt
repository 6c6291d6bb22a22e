use Rattle.std.proofs.Common.{◌+◌, ◌∷◌, [], sym, ap, ◌∙◌}
use Rattle.mon_app.specs.Replay.{lines_of}
use Rattle.mon_app.proofs.Lines.{one_line, cut_line, all_behind}
use Rattle.mon_app.proofs.replaying.first_line.Goals as goal

pub returns-in-Some-clause-lines : goal.returns-in-Some-clause-lines
returns-in-Some-clause-lines c =
    let text = c.args.text.now in
    let end = c.in-Some.end in
    cut_line text end (sym c.line_end.ensures ∙ c.in-Some.is)
    ∙ (λ j. sym (c.without_cr.ensures) j ∷ lines_of (sym (all_behind text (end + 1)) j))

pub returns-in-None-clause-lines : goal.returns-in-None-clause-lines
returns-in-None-clause-lines c =
    one_line c.args.text.now (sym c.line_end.ensures ∙ c.in-None.is) ∙ ap (λ line. line ∷ []) (sym c.without_cr-in-None.ensures)
