use Rattle.std.proofs.Common.{◌≡◌, ◌∙◌, ◌+◌, List, Ok, Err, ap, subst, sym, arith, rules, inl, inr, map, drop}
use Rattle.std.proofs.lemmas.List.{map_push}
use Rattle.toml.specs.View.{items_view, view}
use Rattle.mon_labels.specs.declared.interface.InterfaceLabels.{InterfaceLabels}
use Rattle.mon_labels.specs.Described.{Described, described}
use Rattle.mon_labels.specs.Reading.{entries, entry_after}
use Rattle.mon_labels.proofs.Handed.{handed_on}
use Rattle.mon_labels.proofs.Entries.{after_place, fault_place, after_all}
use Rattle.mon_labels.proofs.reading.read_entries.Goals as goal

pub returns-in_err-labels : goal.returns-in_err-labels
returns-in_err-labels c =
    let held : c.as_slice.result.now ≡ c.loop-index.done.items = search rules in
    let at = c.loop-index.index in
    let v = c.index-values-index.result in
    handed_on (λ v. map described v.items) _ c.from_residual.result c.in_err-labels.field-0.0 c.from_residual.ensures.1 (
    elim c.in_err-labels.ensures [
      | inl memory ↦ inl memory
      | inr bad ↦
          let here = subst (λ (l : List InterfaceLabels). entry_after (at + 1) (map described l) (view v) ≡ Err c.in_err-labels.field-0.0) held bad in
          inr (c.loop-index.invariant ∙ fault_place (map described c.loop-index.done.items) c.args.values.now at v _ (omega arith) c.index-values-index.is here)
    ]
    )

pub loop-index-preserved : goal.loop-index-preserved
loop-index-preserved c =
    let held : c.as_slice.result.now ≡ c.loop-index.done.items = search rules in
    let at = c.loop-index.index in
    let v = c.index-values-index.result in
    let i = c.in_ok-labels.labels in
    let done = c.loop-index.done.items in
    let here = subst (λ (l : List InterfaceLabels). entry_after (at + 1) (map described l) (view v) ≡ Ok (described i)) held c.in_ok-labels.ensures in
    c.loop-index.invariant
    ∙ after_place (map described done) c.args.values.now at v (described i) (omega arith) c.index-values-index.is here
    ∙ ap (λ (l : List Described). entries (at + 1 + 1) l (items_view (drop (at + 1) c.args.values.now)))
    (sym (ap (map described) c.in_ok-push.ensures.items ∙ map_push described done i))

pub returns : goal.returns
returns c = c.loop-index.invariant ∙ after_all _ c.args.values.now c.loop-index.index (omega arith)
