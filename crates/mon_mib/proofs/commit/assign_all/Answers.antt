use Rattle.std.proofs.Common.{suc, ◌≡◌, ◌∙◌, ◌+◌, length, ap, arith}
use Rattle.std.proofs.lemmas.List.{length_push}
use Rattle.mon_mib.specs.Change.{one_failure}
use Rattle.mon_mib.proofs.Assigning.{assigned, done_apart, failed_after, committed, failures_are}
use Rattle.mon_mib.proofs.commit.assign_all.Goals as goal

pub returns-in-Err-clause-outcome : goal.returns-in-Err-clause-outcome
returns-in-Err-clause-outcome g c =
    let at = c.loop-step.invariant.at in
    committed g.D.Device.held g.D.Device.refuses c.args.plan at.done (g.D.Device.held c.args.device.now) (g.D.Device.held c.undo_all.new.device) c.in-Err.failed c.undo_all.result
    (failed_after g.D.Device.held g.D.Device.refuses c.args.plan c.loop-step.steps.items c.pop_front.new.self.items c.loop-step.undos.items c.in-Some.step (g.D.Device.held c.args.device.now)
    c.in-Err.failed c.loop-step.device c.in-Some.ensures.items at c.in-Err.ensures.number c.in-Err.ensures.refused)
    (c.undo_all.ensures.outcome at.done (g.D.Device.held c.args.device.now)
    (done_apart c.args.plan c.loop-step.steps.items c.loop-step.undos.items (g.D.Device.held c.args.device.now) (g.D.Device.held c.loop-step.device) c.loop-step.invariant.apart at)
    (ap (λ v. v.items) c.in-Err.ensures.same ∙ at.undos_are) (c.in-Err.ensures.kept ∙ at.holds))

pub returns-in-Err-clause-failures : goal.returns-in-Err-clause-failures
returns-in-Err-clause-failures g c =
    let at = c.loop-step.invariant.at in
    c.undo_all.ensures.failures ∙ failures_are g.D.Device.held g.D.Device.refuses at.done (g.D.Device.held c.args.device.now) (g.D.Device.held c.undo_all.new.device) c.in-Err.failed c.undo_all.result
    (g.D.Device.failed c.assign_one.new.device) (g.D.Device.failed c.args.device.now)
    (c.undo_all.ensures.outcome at.done (g.D.Device.held c.args.device.now)
    (done_apart c.args.plan c.loop-step.steps.items c.loop-step.undos.items (g.D.Device.held c.args.device.now) (g.D.Device.held c.loop-step.device) c.loop-step.invariant.apart at)
    (ap (λ v. v.items) c.in-Err.ensures.same ∙ at.undos_are) (c.in-Err.ensures.kept ∙ at.holds))
    (c.in-Err.ensures.counted ∙ ap one_failure c.loop-step.invariant.failures)

pub loop-step-preserved : goal.loop-step-preserved
loop-step-preserved g c =
    let more : length c.assign_one.new.undos.items ≡ length c.loop-step.undos.items + 1 = ap length c.in_default-assign_one.ensures.undo ∙ length_push c.loop-step.undos.items _ in
    let less : length c.loop-step.steps.items ≡ suc (length c.pop_front.new.self.items) = ap length c.in-Some.ensures.items in
    record {
      apart = c.loop-step.invariant.apart;
      none = c.loop-step.invariant.none;
      all = omega (arith, c.assign_one.new.undos.ok.0, c.loop-step.undos.ok.0, c.loop-step.invariant.all);
      can_undo = omega (arith, c.in_default-assign_one.ensures.capacity, c.loop-step.invariant.can_undo);
      can_stand = c.loop-step.invariant.can_stand;
      failures = c.in_default-assign_one.ensures.quiet ∙ c.loop-step.invariant.failures;
      at = assigned c.args.plan c.loop-step.steps.items c.pop_front.new.self.items c.loop-step.undos.items c.assign_one.new.undos.items c.in-Some.step (g.D.Device.held c.args.device.now)
          (g.D.Device.held c.loop-step.device) (g.D.Device.held c.assign_one.new.device) c.in-Some.ensures.items c.loop-step.invariant.at
          c.in_default-assign_one.ensures.made c.in_default-assign_one.ensures.undo;
    }
