use Rattle.std.proofs.Common.{List, ◌≡◌, ◌∙◌, ap}
use Rattle.mon_board.specs.declared.instance.Watched.{Watched}
use Rattle.mon_survey.specs.Changes.{change_lines}
use Rattle.mon_survey.specs.Moved.{At, at_in}
use Rattle.mon_settings_commands.specs.Updated.{watched_in}
use Rattle.mon_settings_commands.proofs.updating.lines_of.Goals as goal

pub returns : goal.returns
returns c =
    let is = c.choice.ensures in
    let ws = watched_in c.args.existing.now in
    let watched : c.instances-instances.result.now ≡ ws = c.instances-instances.ensures.instances ∙ ap (λ w. w.instances) c.watch.ensures.watch in (
      c.choice.result,
      record { kinds = is.kinds; up = is.up; part = is.part; group = is.group },
      c.in_ok-lines.ensures ∙ ap (λ (l : List Watched). change_lines c.choice.result (at_in c.renamed.result) l) watched ∙ ap (λ (a : At). change_lines c.choice.result a ws) c.renamed.ensures,
    )
