use Rattle.std.proofs.Common.{ℕ, List, ap, length, refl, subst}
use Rattle.std.specs.Prelude.{IfOk, string_bytes}
use Rattle.mon_oid.specs.Oid.{dotted}
use Rattle.mon_smi.specs.Labels.{name_text}
use Rattle.mon_survey.specs.Meant.{IsSettingsText}
use Rattle.mon_survey.proofs.Steps.{by_modules, by_numbers}
use Rattle.mon_survey.proofs.surveying.settings.Goals as goal

pub returns-clause-reads : goal.returns-clause-reads
returns-clause-reads c =
    subst (λ (shown : List ℕ → List ℕ). IfOk c.settings_by-2.result (λ drafted. IsSettingsText c.args.names.now shown c.args.choice.now c.args.options.now c.args.agent.now.engine.now c.args.agent.now.answers.now (string_bytes drafted.text) drafted.longest drafted.targets.items))
    (by_modules c.args.names.now (length c.args.options.now.modules.now) c.is_empty.result c.is_empty.ensures c.if-is_empty.false _ (ap name_text c.in_ok-labels.ensures)) c.settings_by-2.ensures.reads

pub returns-then-is_empty-clause-reads : goal.returns-then-is_empty-clause-reads
returns-then-is_empty-clause-reads c =
    subst (λ (shown : List ℕ → List ℕ). IfOk c.settings_by.result (λ drafted. IsSettingsText c.args.names.now shown c.args.choice.now c.args.options.now c.args.agent.now.engine.now c.args.agent.now.answers.now (string_bytes drafted.text) drafted.longest drafted.targets.items))
    (by_numbers c.args.names.now (length c.args.options.now.modules.now) c.is_empty.result c.is_empty.ensures c.if-is_empty.true dotted refl) c.settings_by.ensures.reads
