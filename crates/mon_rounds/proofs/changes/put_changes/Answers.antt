use Rattle.std.proofs.Common.{◌++◌, ◌∙◌, ap, arith, false, get_or}
use Rattle.mon_rounds.specs.Changes.{change_at}
use Rattle.mon_rounds.proofs.Becoming.{changes_step}
use Rattle.mon_rounds.proofs.changes.put_changes.Goals as goal

pub loop-number-preserved : goal.loop-number-preserved
loop-number-preserved c =
    let at = c.loop-number.number in
    changes_step (change_at c.args.trouble) false c.args.said.now c.args.changes.now.items c.args.is.now at false _ _ (omega (arith, c.loop-number-test.true))
    (c.in_ok-put_change.ensures ∙ ap (λ was. c.loop-number.changes.items ++ change_at c.args.trouble at was (get_or c.args.is.now at false)) c.is_said.ensures) c.loop-number.invariant
