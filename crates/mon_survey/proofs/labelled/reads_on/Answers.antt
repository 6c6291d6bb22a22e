use Rattle.std.proofs.Common.{◌≡◌, None, Some, arith}
use Rattle.std.proofs.lemmas.Bool.{false≢true}
use Rattle.std.proofs.lemmas.Grind.{common_steps}
use Rattle.std.proofs.lemmas.Result.{IfOk-weaker}
use Rattle.toml.specs.View.{items_view}
use Rattle.mon_survey.specs.Labels.{interfaces_in}
use Rattle.mon_survey.proofs.Verdicts.{read_on}
use Rattle.mon_survey.proofs.labelled.reads_on.Goals as goal

pub returns-in_default : goal.returns-in_default
returns-in_default c =
    let found : interfaces_in c.args.text.now ≡ None = grind (arith, common_steps) in
    let reads = read_on c.args.source.now.engine.now c.args.source.now.answers.now c.args.indexes.now (items_view c.args.before.now) c.args.text.now _ found in
    (λ f. absurd (false≢true f), λ r. absurd (reads.1 r))

pub returns : goal.returns
returns c =
    let found : interfaces_in c.args.text.now ≡ Some (items_view c.in-Some.after.now) = grind (arith, common_steps) in
    let reads = read_on c.args.source.now.engine.now c.args.source.now.answers.now c.args.indexes.now (items_view c.args.before.now) c.args.text.now _ found in
    IfOk-weaker c.continues.result _ _ (λ is both. (λ t. reads.0 (both.0 t), λ r. both.1 (reads.1 r))) c.continues.ensures
