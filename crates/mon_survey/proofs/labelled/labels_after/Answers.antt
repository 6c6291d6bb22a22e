use Rattle.std.proofs.Common.{◌≡◌, rules}
use Rattle.std.specs.Prelude.{string_bytes}
use Rattle.std.proofs.lemmas.Result.{IfErr-weaker}
use Rattle.mon_survey.specs.Labels.{labels_text}
use Rattle.mon_survey.proofs.Verdicts.{not_labels}
use Rattle.mon_survey.proofs.labelled.labels_after.Goals as goal

pub returns-in-Ok-clause-fault : goal.returns-in-Ok-clause-fault
returns-in-Ok-clause-fault c =
    let is : string_bytes c.in-Ok.text ≡ labels_text c.args.old.now c.args.source.now.engine.now c.args.source.now.answers.now c.args.indexes.now = search rules in
    IfErr-weaker c.confirm.result _ _ (not_labels _ _ _ _ _ _ c.requires is) c.confirm.ensures.fault
