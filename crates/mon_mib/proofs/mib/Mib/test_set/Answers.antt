use Rattle.std.proofs.Common.{◌∙◌, ap, sym}
use Rattle.mon_vacm.specs.View.{IsInView}
use Rattle.mon_mib.specs.Known.{Known, known_of}
use Rattle.mon_mib.proofs.Planning.{planned_when, passed_when, finished, all_accepted, apart, plan_made, on_ok}
use Rattle.mon_mib.proofs.mib.Mib.test_set.Goals as goal
use Rattle.mon_mib.proofs.mib.Mib.test_set.Goals.{then-not-is_named_after+in_ok-push_back, else-not-is_named_after+in-SysText-1, else-not-is_named_after+in-Alias-1, else-not-is_named_after+in-Admin-1}

pub loop-i-preserved : goal.loop-i-preserved
loop-i-preserved g c =
    let known : Known = known_of c.args.self.now.settings c.args.self.now.counters (g.D.Device.held c.args.self.now.device) c.args.moment in
    elim c.if-not-is_named_after.branch [
      | then-not-is_named_after+in_ok-push_back w ↦ planned_when known (IsInView c.args.policy.now.families c.args.access.view.now) c.args.bindings.now c.loop-i.i c.loop-i.steps.items c.index-bindings-i.result c.in_ok-change.change
          c.loop-i.invariant c.loop-i-test.true (sym c.index-bindings-i.is) c.in_ok-change.ensures.made c.in_ok-places.places c.in_ok-places.ensures c.is_named_after.result c.if-not-is_named_after.steps.items c.is_named_after.ensures w.if-not-is_named_after.true
          (ap (λ q. q.items) w.steps-is ∙ w.in_ok-push_back.ensures.items)
      | else-not-is_named_after+in-SysText-1 w ↦ passed_when known (IsInView c.args.policy.now.families c.args.access.view.now) c.args.bindings.now c.loop-i.i c.loop-i.steps.items c.index-bindings-i.result c.in_ok-change.change
          c.loop-i.invariant c.loop-i-test.true (sym c.index-bindings-i.is) c.in_ok-change.ensures.made c.in_ok-places.places c.in_ok-places.ensures c.is_named_after.result c.if-not-is_named_after.steps.items c.is_named_after.ensures w.if-not-is_named_after.false
          (ap (λ q. q.items) w.steps-is)
      | else-not-is_named_after+in-Alias-1 w ↦ passed_when known (IsInView c.args.policy.now.families c.args.access.view.now) c.args.bindings.now c.loop-i.i c.loop-i.steps.items c.index-bindings-i.result c.in_ok-change.change
          c.loop-i.invariant c.loop-i-test.true (sym c.index-bindings-i.is) c.in_ok-change.ensures.made c.in_ok-places.places c.in_ok-places.ensures c.is_named_after.result c.if-not-is_named_after.steps.items c.is_named_after.ensures w.if-not-is_named_after.false
          (ap (λ q. q.items) w.steps-is)
      | else-not-is_named_after+in-Admin-1 w ↦ passed_when known (IsInView c.args.policy.now.families c.args.access.view.now) c.args.bindings.now c.loop-i.i c.loop-i.steps.items c.index-bindings-i.result c.in_ok-change.change
          c.loop-i.invariant c.loop-i-test.true (sym c.index-bindings-i.is) c.in_ok-change.ensures.made c.in_ok-places.places c.in_ok-places.ensures c.is_named_after.result c.if-not-is_named_after.steps.items c.is_named_after.ensures w.if-not-is_named_after.false
          (ap (λ q. q.items) w.steps-is)
    ]

pub new-requires : goal.new-requires
new-requires g c = apart (known_of c.args.self.now.settings c.args.self.now.counters (g.D.Device.held c.args.self.now.device) c.args.moment)
    c.args.bindings.now c.loop-i.steps.items c.loop-i.invariant.rising c.loop-i.invariant.each

pub returns-clause-plan : goal.returns-clause-plan
returns-clause-plan g c =
    let known : Known = known_of c.args.self.now.settings c.args.self.now.counters (g.D.Device.held c.args.self.now.device) c.args.moment in
    plan_made known c.args.bindings.now c.loop-i.steps.items c.new.result c.new.ensures.plan
    (finished known (IsInView c.args.policy.now.families c.args.access.view.now) c.args.bindings.now c.loop-i.i c.loop-i.steps.items c.loop-i-test.false c.loop-i.invariant)

pub returns-clause-accepted : goal.returns-clause-accepted
returns-clause-accepted g c =
    let known : Known = known_of c.args.self.now.settings c.args.self.now.counters (g.D.Device.held c.args.self.now.device) c.args.moment in
    on_ok c.new.result
    (all_accepted known (IsInView c.args.policy.now.families c.args.access.view.now) c.args.bindings.now c.loop-i.i c.loop-i.steps.items c.loop-i-test.false c.loop-i.invariant)
