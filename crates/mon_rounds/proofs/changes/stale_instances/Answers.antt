use Rattle.std.proofs.Common.{◌≡◌, ◌+◌, List, map, take, ap, subst, sym, ◌∙◌}
use Rattle.std.proofs.lemmas.Result.{IfOk-from_err}
use Rattle.mon_rounds.specs.declared.freshness.TargetAge.{TargetAge}
use Rattle.mon_rounds.specs.Changes.{is_stale}
use Rattle.mon_rounds.proofs.Pushed.{all_pushed, one_pushed}
use Rattle.mon_rounds.proofs.changes.stale_instances.Goals as goal

pub loop-instance-init : goal.loop-instance-init
loop-instance-init c = c.in_ok-stale.ensures.items

pub loop-instance-preserved : goal.loop-instance-preserved
loop-instance-preserved c =
    let all = c.instances-instances.result.now in
    let i = c.loop-instance.instance-index in
    subst (λ (ts : List TargetAge). c.push.new.self.items ≡ map (is_stale c.args.limit c.args.said.now ts) (take (i + 1) all)) c.targets-targets.ensures
    (one_pushed (is_stale c.args.limit c.args.said.now c.targets-targets.result.now) all c.loop-instance.stale.items c.push.new.self.items i _ _
    (subst (λ (ts : List TargetAge). c.loop-instance.stale.items ≡ map (is_stale c.args.limit c.args.said.now ts) (take i all)) (sym c.targets-targets.ensures) c.loop-instance.invariant)
    c.loop-instance-test.true c.in_ok-push.ensures.items c.is_stale.ensures)

pub returns : goal.returns
returns c =
    let stale = is_stale c.args.limit c.args.said.now c.args.freshness.now.targets.items in
    all_pushed stale c.instances-instances.result.now c.loop-instance.stale.items c.loop-instance.instance-index c.loop-instance.invariant c.loop-instance-test.false
    ∙ ap (map stale) c.instances-instances.ensures

pub returns-in_err-push : goal.returns-in_err-push
returns-in_err-push c = IfOk-from_err c.from_residual-in_err-push.result _ c.from_residual-in_err-push.ensures.0
