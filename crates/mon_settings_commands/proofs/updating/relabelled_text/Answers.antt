use Rattle.std.proofs.Common.{List, ◌≡◌, ◌∙◌, ap, string_bytes, subst}
use Rattle.hex.specs.Hex.{encode_lower}
use Rattle.mon_board.specs.declared.instance.Watched.{Watched}
use Rattle.mon_survey.specs.Moved.{At}
use Rattle.mon_survey.specs.Relabelled.{IsNotRelabelled, IsRelabelled, indexes_then}
use Rattle.mon_settings_commands.specs.Source.{source_in}
use Rattle.mon_settings_commands.specs.Updated.{at_source}
use Rattle.mon_settings_commands.proofs.updating.relabelled_text.Goals as goal

pub returns-in-Ok : goal.returns-in-Ok
returns-in-Ok c =
    let is = c.choice.ensures in
    let f = c.args.file in
    let a = at_source (source_in c.args.input.now) f.known.now in
    let ws = f.old.existing.now.station.core.watch.instances in
    let watched : c.instances-instances.result.now ≡ ws = c.instances-instances.ensures.instances ∙ ap (λ w. w.instances) c.watch.ensures.watch in (
      c.choice.result,
      record { kinds = is.kinds; up = is.up; part = is.part; group = is.group },
      subst (λ (l : List Watched). IsRelabelled f.old.labels.now (encode_lower a.engine) a.cells (indexes_then c.choice.result a l) (string_bytes c.in-Ok.text)) watched
          (subst (λ (b : At). IsRelabelled f.old.labels.now (encode_lower b.engine) b.cells (indexes_then c.choice.result b c.instances-instances.result.now) (string_bytes c.in-Ok.text)) c.renamed.ensures c.in-Ok.ensures.reads),
    )

pub returns-in-Err : goal.returns-in-Err
returns-in-Err c =
    let is = c.choice.ensures in
    let f = c.args.file in
    let a = at_source (source_in c.args.input.now) f.known.now in
    let ws = f.old.existing.now.station.core.watch.instances in
    let watched : c.instances-instances.result.now ≡ ws = c.instances-instances.ensures.instances ∙ ap (λ w. w.instances) c.watch.ensures.watch in (
      c.choice.result,
      c.in-Err.fault,
      record { kinds = is.kinds; up = is.up; part = is.part; group = is.group },
      record { survey = c.labels_failure.ensures.survey; more = c.labels_failure.ensures.more },
      subst (λ (l : List Watched). IsNotRelabelled f.old.labels.now (encode_lower a.engine) a.cells (indexes_then c.choice.result a l) c.in-Err.fault) watched
          (subst (λ (b : At). IsNotRelabelled f.old.labels.now (encode_lower b.engine) b.cells (indexes_then c.choice.result b c.instances-instances.result.now) c.in-Err.fault) c.renamed.ensures c.in-Err.ensures.fault),
    )
