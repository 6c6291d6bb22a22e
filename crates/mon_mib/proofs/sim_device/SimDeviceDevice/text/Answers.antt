use Rattle.std.proofs.Common.{◌≡◌, List, ◌∙◌, ap, sym, subst}
use Rattle.std.specs.Option.{option_copied}
use Rattle.mon_mib.specs.declared.interface.Interface.{Interface}
use Rattle.mon_mib.specs.Held.{AreIndexes}
use Rattle.mon_mib.specs.Sim.{Sim, indexes_of, interface_at}
use Rattle.mon_mib.proofs.Simulated.{found_some}
use Rattle.mon_mib.proofs.sim_device.SimDeviceDevice.text.Goals as goal

pub returns-in-Some-clause-lacking : goal.returns-in-Some-clause-lacking
returns-in-Some-clause-lacking c lacking =
    let same : c.deref.result.now ≡ c.args.self.now.interfaces = c.deref.ensures.value ∙ ap (λ (s : Sim). s.interfaces) c.self.view_is in
    absurd (lacking (found_some c.args.self.now.interfaces c.args.index c.find.result c.in-Some.interface (subst (λ (ps : List Interface). option_copied c.find.result ≡ interface_at ps c.args.index) same c.find.ensures) c.in-Some.is))

pub find-requires : goal.find-requires
find-requires c = subst (λ (ps : List Interface). AreIndexes (indexes_of ps)) (sym c.deref.ensures.value) c.self.invariant
