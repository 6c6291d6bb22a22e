use Rattle.std.proofs.Common.{refl, ◌∙◌}
use Rattle.mon_smi.proofs.Labelled.{asked, goes_in, stays}
use Rattle.mon_smi.proofs.labels.put_label.Goals as goal

pub returns-then-is_known : goal.returns-then-is_known
returns-then-is_known c =
    let known = asked c.args.by_identifier.now c.parts.result.now c.args.oid.now c.args.name.now c.copied.result _ c.is_known.ensures (c.copied.ensures ∙ c.get.ensures.value) c.parts.ensures.parts in
    stays c.args.by_identifier.now c.args.oid.now c.args.name.now (known ∙ c.if-is_known.true)

pub returns : goal.returns
returns c =
    let known = asked c.args.by_identifier.now c.parts.result.now c.args.oid.now c.args.name.now c.copied.result _ c.is_known.ensures (c.copied.ensures ∙ c.get.ensures.value) c.parts.ensures.parts in
    goes_in c.args.by_identifier.now c.insert.new.self c.in_ok-from_slice.field-0 c.args.oid.now c.args.name.now c.args.name (c.in_ok-from_slice.ensures.items ∙ c.parts-2.ensures.parts) refl (known ∙ c.if-is_known.false) c.in_ok-insert.ensures.updates
