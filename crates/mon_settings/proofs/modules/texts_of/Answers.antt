use Rattle.std.proofs.Common.{ap, ◌∙◌, arith, inl, inr}
use Rattle.mon_settings.specs.declared.key.Key.TheVariants.{Modules}
use Rattle.mon_settings.specs.Keys.{or_bad}
use Rattle.mon_settings.proofs.ModuleTexts.{all_texts, fault_text, more_text}
use Rattle.mon_settings.proofs.modules.texts_of.Goals as goal

pub returns-in-Err : goal.returns-in-Err
returns-in-Err c =
    elim c.in-Err.ensures [
      | inl memory ↦ inl memory
      | inr bad ↦ inr (ap (or_bad Modules) c.loop-value.invariant ∙ fault_text c.args.values.now c.loop-value.value-index c.value-item.result (omega arith) c.value-item.is _ _ bad)
    ]

pub loop-value-preserved : goal.loop-value-preserved
loop-value-preserved c =
    c.loop-value.invariant
    ∙ more_text c.args.values.now c.loop-value.value-index c.value-item.result (omega arith) c.value-item.is _ c.in-Ok.value c.in-Ok.ensures
    ∙ rw (← c.in_ok-push.ensures.items)

pub returns : goal.returns
returns c = ap (or_bad Modules) (c.loop-value.invariant ∙ all_texts c.args.values.now c.loop-value.value-index _ (omega arith))
