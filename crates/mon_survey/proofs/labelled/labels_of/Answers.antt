use Rattle.std.proofs.Common.{◌≡◌, Some, arith}
use Rattle.std.specs.Prelude.{string_bytes}
use Rattle.std.proofs.lemmas.Grind.{common_steps}
use Rattle.toml.specs.View.{items_view}
use Rattle.mon_survey.specs.Labels.{interfaces_in}
use Rattle.mon_survey.proofs.Verdicts.{are_labels}
use Rattle.mon_survey.proofs.labelled.labels_of.Goals as goal

pub returns-clause-reads : goal.returns-clause-reads
returns-clause-reads c =
    let was : interfaces_in c.args.old.now ≡ Some (items_view c.in-Some.before.now) = grind (arith, common_steps) in
    are_labels string_bytes c.args.old.now c.args.source.now.engine.now c.args.source.now.answers.now c.args.indexes.now _ c.labels_after.result
    was c.in-Ok-require_room.ensures.other c.in-Ok-require_room.ensures.few c.labels_after.ensures.is c.labels_after.ensures.reads
