use Rattle.std.proofs.Common.{◌<◌, ◌^◌, ap, ◌∙◌, subst, refl}
use Rattle.mon_mib.specs.declared.interface.Interface.{Interface}
use Rattle.mon_mib.proofs.Simulated.{more_good, next_last, whole}
use Rattle.mon_mib.proofs.sim_device.are_indexes.Goals as goal

pub loop-interface-preserved : goal.loop-interface-preserved
loop-interface-preserved c =
    let ps = c.args.interfaces.now in
    let j = c.loop-interface.interface-index in
    let item = c.interface-item.result in
    record {
      last = ap (λ (p : Interface). p.index) c.interface-item.is ∙ next_last ps j item c.loop-interface-test.true;
      good = more_good ps j item c.loop-interface.last c.loop-interface-test.true c.loop-interface.invariant.last
          (subst (λ (p : Interface). c.loop-interface.last < p.index) c.interface-item.is c.if-interface-last.false)
          (subst (λ (p : Interface). p.index < 2 ^ 31) c.interface-item.is c.if-interface.false) c.loop-interface.invariant.good;
    }

pub returns : goal.returns
returns c = ((λ _. whole c.args.interfaces.now c.loop-interface.interface-index c.loop-interface-test.false c.loop-interface.invariant.good), λ _. refl)
