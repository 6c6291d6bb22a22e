use Rattle.std.proofs.Common.{◌++◌, ◌∙◌, None, arith}
use Rattle.mon_rounds.specs.Changes.{engine_change}
use Rattle.mon_rounds.proofs.Becoming.{changes_step}
use Rattle.mon_rounds.proofs.changes.put_engine_changes.Goals as goal

pub loop-number-preserved : goal.loop-number-preserved
loop-number-preserved c =
    let at = c.loop-number.number in
    changes_step engine_change None c.args.said.now c.args.changes.now.items c.args.is.now at None _ _ (omega (arith, c.loop-number-test.true))
    (c.in_ok-put_engine_change.ensures
    ∙ (λ i. c.loop-number.changes.items ++ engine_change at (c.engine_at.ensures i) (c.engine_at-in-loop-number.ensures i))) c.loop-number.invariant
