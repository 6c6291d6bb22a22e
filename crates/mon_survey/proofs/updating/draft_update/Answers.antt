use Rattle.std.proofs.Common.{◌≡◌, ℕ, List, ap, length, refl, rules, subst}
use Rattle.std.specs.Prelude.{IfErr, IfOk, Ok, string_bytes}
use Rattle.mon_oid.specs.Oid.{dotted}
use Rattle.mon_smi.specs.Labels.{name_text}
use Rattle.mon_survey.specs.Moved.{at_of}
use Rattle.mon_survey.specs.Updated.{IsUndrafted, update_of}
use Rattle.mon_survey.proofs.Steps.{by_modules, by_numbers}
use Rattle.mon_survey.proofs.updating.draft_update.Goals as goal

pub returns-clause-gives : goal.returns-clause-gives
returns-clause-gives c = subst (λ (shown : List ℕ → List ℕ). IfOk c.update_by-2.result (λ text. update_of shown (at_of c.args.update.now.places) c.args.existing.now.station.now.core.watch.instances c.args.existing.now.text.now c.args.update.now.options.now c.args.update.now.planned.now ≡ Ok (string_bytes text))) (by_modules c.args.existing.now.names.now (length c.args.existing.now.station.now.modules.items) c.is_empty.result (search rules) c.if-is_empty.false _ (ap name_text c.in_ok-labels.ensures)) c.update_by-2.ensures.gives

pub returns-clause-fault : goal.returns-clause-fault
returns-clause-fault c = subst (λ (shown : List ℕ → List ℕ). IfErr c.update_by-2.result (IsUndrafted shown (at_of c.args.update.now.places) c.args.existing.now.station.now.core.watch.instances c.args.existing.now.text.now c.args.update.now.options.now c.args.update.now.planned.now)) (by_modules c.args.existing.now.names.now (length c.args.existing.now.station.now.modules.items) c.is_empty.result (search rules) c.if-is_empty.false _ (ap name_text c.in_ok-labels.ensures)) c.update_by-2.ensures.fault

pub returns-then-is_empty-clause-gives : goal.returns-then-is_empty-clause-gives
returns-then-is_empty-clause-gives c = subst (λ (shown : List ℕ → List ℕ). IfOk c.update_by.result (λ text. update_of shown (at_of c.args.update.now.places) c.args.existing.now.station.now.core.watch.instances c.args.existing.now.text.now c.args.update.now.options.now c.args.update.now.planned.now ≡ Ok (string_bytes text))) (by_numbers c.args.existing.now.names.now (length c.args.existing.now.station.now.modules.items) c.is_empty.result (search rules) c.if-is_empty.true dotted refl) c.update_by.ensures.gives

pub returns-then-is_empty-clause-fault : goal.returns-then-is_empty-clause-fault
returns-then-is_empty-clause-fault c = subst (λ (shown : List ℕ → List ℕ). IfErr c.update_by.result (IsUndrafted shown (at_of c.args.update.now.places) c.args.existing.now.station.now.core.watch.instances c.args.existing.now.text.now c.args.update.now.options.now c.args.update.now.planned.now)) (by_numbers c.args.existing.now.names.now (length c.args.existing.now.station.now.modules.items) c.is_empty.result (search rules) c.if-is_empty.true dotted refl) c.update_by.ensures.fault
