use Rattle.std.proofs.Common.{◌≤◌, length, rules, ◌∙◌}
use Rattle.mon_survey.specs.Edited.{edited_line, ends_line}
use Rattle.mon_survey.proofs.Pieces.{feeds_line, one_more, first_line}
use Rattle.mon_survey.proofs.editing.put_lines.Goals as goal

pub loop-rest-preserved : goal.loop-rest-preserved
loop-rest-preserved c =
    let some : 1 ≤ length c.loop-rest.rest.now = search rules in
    one_more ends_line feeds_line (edited_line c.args.names.now) c.loop-rest.rest.now _ _ _ _ _ c.line_end.result some (c.line_end.ensures.number ∙ first_line 10 c.loop-rest.rest.now) c.split_at.ensures.front c.split_at.ensures.back (search rules) c.loop-rest.invariant
