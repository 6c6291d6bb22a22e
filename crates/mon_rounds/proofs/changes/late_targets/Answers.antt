use Rattle.std.proofs.lemmas.Result.{IfOk-from_err}
use Rattle.mon_rounds.specs.Freshness.{is_late}
use Rattle.mon_rounds.proofs.Pushed.{all_pushed, one_pushed}
use Rattle.mon_rounds.proofs.changes.late_targets.Goals as goal

pub loop-target-init : goal.loop-target-init
loop-target-init c = c.in_ok-late.ensures.items

pub loop-target-preserved : goal.loop-target-preserved
loop-target-preserved c = one_pushed is_late c.args.targets.now c.loop-target.late.items c.push.new.self.items c.loop-target.target-index _ _ c.loop-target.invariant c.loop-target-test.true c.in_ok-push.ensures.items c.is_late.ensures

pub returns : goal.returns
returns c = all_pushed is_late c.args.targets.now c.loop-target.late.items c.loop-target.target-index c.loop-target.invariant c.loop-target-test.false

pub returns-in_err-push : goal.returns-in_err-push
returns-in_err-push c = IfOk-from_err c.from_residual-in_err-push.result _ c.from_residual-in_err-push.ensures.0
