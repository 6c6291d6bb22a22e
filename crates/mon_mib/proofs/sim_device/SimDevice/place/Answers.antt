use Rattle.std.proofs.Common.{◌≡◌, List, ◌∙◌, ap, sym, subst}
use Rattle.std.specs.Prelude.{Contains}
use Rattle.mon_mib.specs.declared.interface.Interface.{Interface}
use Rattle.mon_mib.specs.Held.{AreIndexes}
use Rattle.mon_mib.specs.Sim.{Sim, indexes_of, IsPlaceOfIndex}
use Rattle.mon_mib.proofs.sim_device.SimDevice.place.Goals as goal

pub place_of-requires : goal.place_of-requires
place_of-requires c = subst (λ (ps : List Interface). AreIndexes (indexes_of ps)) (sym c.deref.ensures.value) c.self.invariant

pub returns-in_default-clause-lacking : goal.returns-in_default-clause-lacking
returns-in_default-clause-lacking c =
    let same : c.deref.result.now ≡ c.args.self.now.interfaces = c.deref.ensures.value ∙ ap (λ (s : Sim). s.interfaces) c.self.view_is in
    subst (λ (ps : List Interface). ¬ (Contains (indexes_of ps) c.args.index)) same c.in_default.ensures.missing

pub returns-clause-found : goal.returns-clause-found
returns-clause-found c =
    let same : c.deref.result.now ≡ c.args.self.now.interfaces = c.deref.ensures.value ∙ ap (λ (s : Sim). s.interfaces) c.self.view_is in
    subst (λ (ps : List Interface). IsPlaceOfIndex ps c.args.index c.in-Some.place) same c.in-Some.ensures.found
