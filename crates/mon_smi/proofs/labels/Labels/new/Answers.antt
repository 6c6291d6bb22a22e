use Rattle.std.proofs.Common.{◌≤◌, arith}
use Rattle.mon_smi.proofs.Labelled.{labelled, widened}
use Rattle.mon_smi.proofs.labels.Labels.new.Goals.{then-len-longest, else-len-longest}
use Rattle.mon_smi.proofs.labels.Labels.new.Goals as goal

pub loop-definition-preserved : goal.loop-definition-preserved
loop-definition-preserved c =
    let so_far = c.loop-definition.invariant in
    let longest = c.if-len-longest.longest in
    let reach : (c.in_ok-len.len ≤ longest) × (c.loop-definition.longest ≤ longest) =
    elim c.if-len-longest.branch [
      | then-len-longest w ↦ (omega (arith, w.longest-is), omega (arith, w.if-len-longest, w.longest-is))
      | else-len-longest w ↦ (omega (arith, w.if-len-longest, w.longest-is), omega (arith, w.longest-is))
    ] in
    record {
      labels = labelled c.args.defs.now c.loop-definition.definition-index c.definition-item.result c.as_str-name.result.now c.loop-definition.by_identifier c.add_label.new.by_identifier
          c.loop-definition-test.true c.definition-item.is c.as_str-name.ensures so_far.labels c.in_ok-len.ensures.added;
      within = c.in_ok-len.ensures.within longest reach.0 (widened c.loop-definition.by_identifier c.loop-definition.longest longest reach.1 so_far.within);
    }
