use Rattle.std.proofs.Common.{ap}
use Rattle.std.proofs.lemmas.Result.{IfOk-from_err}
use Rattle.mon_poller.specs.declared.target.Target.{Target}
use Rattle.mon_rounds.proofs.Pushed.{all_pushed, one_pushed}
use Rattle.mon_rounds.proofs.addresses.target_addresses.Goals as goal

pub loop-target-init : goal.loop-target-init
loop-target-init c = c.in_ok-addresses.ensures.items

pub loop-target-preserved : goal.loop-target-preserved
loop-target-preserved c = one_pushed (λ (t : Target). t.address) c.args.targets.now c.loop-target.addresses.items c.push.new.self.items c.loop-target.target-index c.target-item.result _ c.loop-target.invariant c.loop-target-test.true c.in_ok-push.ensures.items (ap (λ (t : Target). t.address) c.target-item.is)

pub returns : goal.returns
returns c = all_pushed (λ (t : Target). t.address) c.args.targets.now c.loop-target.addresses.items c.loop-target.target-index c.loop-target.invariant c.loop-target-test.false

pub returns-in_err-push : goal.returns-in_err-push
returns-in_err-push c = IfOk-from_err c.from_residual-in_err-push.result _ c.from_residual-in_err-push.ensures.0
