use Rattle.std.proofs.Common.{◌≡◌, ℕ, List, None, ◌∙◌, ap, subst}
use Rattle.std.specs.Prelude.{IfErr}
use Rattle.hex.specs.Hex.{encode_lower}
use Rattle.mon_survey.specs.Labels.{IsNoLabels, indexes_after, indexes_of}
use Rattle.mon_survey.proofs.labelled.labels.Goals as goal

pub returns-clause-fault : goal.returns-clause-fault
returns-clause-fault c =
    let engine : c.as_str.result.now ≡ encode_lower c.args.agent.now.engine.now = c.as_str.ensures.value ∙ c.in_ok-digits.ensures in
    let indexes : c.deref-2.result.now ≡ indexes_of c.args.choice.now c.args.agent.now.answers.now =
    c.deref-2.ensures.value ∙ (c.in_ok-indexes.ensures ∙ ap (indexes_after None) (c.deref.ensures.value ∙ c.in-Ok.ensures.gives)) in
    subst (λ (e : List ℕ). IfErr c.labels_of.result (IsNoLabels c.args.old.now e c.args.agent.now.answers.now (indexes_of c.args.choice.now c.args.agent.now.answers.now))) engine
    (subst (λ (ns : List ℕ). IfErr c.labels_of.result (IsNoLabels c.args.old.now c.as_str.result.now c.args.agent.now.answers.now ns)) indexes c.labels_of.ensures.fault)
