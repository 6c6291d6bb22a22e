use Rattle.std.proofs.Common.{◌∙◌, arith, inl, inr}
use Rattle.mon_settings.proofs.Handed.{handed_on}
use Rattle.mon_settings.proofs.Rows.{after_place, fault_place, after_all}
use Rattle.mon_settings.proofs.list.read_rows.Goals as goal

pub returns-in_err-entry : goal.returns-in_err-entry
returns-in_err-entry g c =
    handed_on (λ rs. rs.items) _ c.from_residual.result c.in_err-entry.field-0.0 c.from_residual.ensures.1 (
    elim c.in_err-entry.ensures [
      | inl memory ↦ inl memory
      | inr bad ↦ inr (c.loop-index.invariant ∙ fault_place c.args.key (g.R.Row.row_of c.args.around.now) _ c.args.values.now c.loop-index.index c.index-values-index.result _ (omega arith) c.index-values-index.is bad)
    ]
    )

pub loop-index-preserved : goal.loop-index-preserved
loop-index-preserved g c =
    let step = after_place c.args.key (g.R.Row.row_of c.args.around.now) c.loop-index.read.items c.args.values.now c.loop-index.index c.index-values-index.result _ (omega arith) c.index-values-index.is c.in_ok-entry.ensures in
    c.loop-index.invariant ∙ step ∙ rw (← c.in_ok-push.ensures.items)

pub returns : goal.returns
returns g c = c.loop-index.invariant ∙ after_all c.args.key (g.R.Row.row_of c.args.around.now) _ c.args.values.now c.loop-index.index (omega arith)
