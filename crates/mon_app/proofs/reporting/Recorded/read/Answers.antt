use Rattle.std.proofs.Common.{◌++◌, [], map, ap, sym, subst, ◌∙◌}
use Rattle.mon_app.specs.Replay.{accepted, refusals, refused_text, lines_of}
use Rattle.mon_app.specs.Reported.{IsKept, reported_row}
use Rattle.mon_app.specs.Windows.{rows_of}
use Rattle.mon_app.proofs.reporting.Recorded.read.Goals as goal

pub returns-clause-kept : goal.returns-clause-kept
returns-clause-kept c =
    let lines = lines_of c.args.input.now in
    let why = refusals 0 [] lines in
    let rows_is = c.in_ok-take_lines.ensures.rows ∙ ap (λ n. rows_of n (accepted [] lines)) c.new-table.ensures.size in
    let first = c.in_ok-take_lines.ensures.text ∙ (λ j. c.new-refused.ensures.bytes j ++ refused_text why) in
    λ j. record { refused = first j; entries = map reported_row (rows_is j) }

pub returns-clause-meaning : goal.returns-clause-meaning
returns-clause-meaning c = subst (IsKept c.args.n c.args.input.now) (sym (returns-clause-kept c)) (c.one_text.ensures.kept c.args.n c.args.input.now)
