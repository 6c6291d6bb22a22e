use Rattle.std.proofs.Common.{ℕ, List, ◌∙◌, inr, subst}
use Rattle.mon_survey.specs.Labels.{IsNoLabels}
use Rattle.mon_survey.proofs.relabelling.relabelled.Goals as goal

pub returns-in-Err-labels_of-clause-fault : goal.returns-in-Err-labels_of-clause-fault
returns-in-Err-labels_of-clause-fault c =
    inr (inr (subst (λ (t : List ℕ). IsNoLabels t c.args.source.now.engine.now c.args.source.now.answers.now c.args.indexes.now c.in-Err-labels_of.fault) (c.as_str.ensures.value ∙ c.in-Ok.ensures.is) c.in-Err-labels_of.ensures.fault))
