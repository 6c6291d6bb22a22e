use Rattle.std.proofs.Common.{sym, ap, ◌∙◌}
use Rattle.std.specs.Prelude.{option_map}
use Rattle.mon_rehearsal.proofs.Cuts.{cut_shorter, line_alone, line_first}
use Rattle.mon_rehearsal.proofs.script.first_line.Goals as goal

pub returns-in-Some-clause-lines : goal.returns-in-Some-clause-lines
returns-in-Some-clause-lines c some =
    line_first c.args.text.now c.in-Some.line.now c.in-Some.after.now (sym c.cut.ensures ∙ ap (option_map _) c.in-Some.is)

pub returns-in-Some-clause-shorter : goal.returns-in-Some-clause-shorter
returns-in-Some-clause-shorter c some =
    cut_shorter 10 c.args.text.now c.in-Some.line.now c.in-Some.after.now (sym c.cut.ensures ∙ ap (option_map _) c.in-Some.is)

pub returns-in-None-clause-lines : goal.returns-in-None-clause-lines
returns-in-None-clause-lines c some = line_alone c.args.text.now some (sym c.cut.ensures ∙ ap (option_map _) c.in-None.is)
