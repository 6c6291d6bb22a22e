use Rattle.std.proofs.Common.{◌≡◌, ◌<◌, ◌^◌, List, ◌∙◌, ap, sym, subst}
use Rattle.std.specs.Prelude.{Contains}
use Rattle.std.specs.Option.{option_copied}
use Rattle.mon_mib.specs.declared.interface.Interface.{Interface}
use Rattle.mon_mib.specs.Held.{AreIndexes}
use Rattle.mon_mib.specs.Sim.{Sim, indexes_of, interface_at}
use Rattle.std.proofs.lemmas.List.Elements.{All-contains}
use Rattle.mon_mib.proofs.Simulated.{found_some, found_none}
use Rattle.mon_mib.proofs.sim_device.SimDeviceDevice.facts.Goals as goal

pub returns-in_default-clause-there : goal.returns-in_default-clause-there
returns-in_default-clause-there c at =
    let same : c.deref.result.now ≡ c.args.self.now.interfaces = c.deref.ensures.value ∙ ap (λ (s : Sim). s.interfaces) c.self.view_is in
    absurd (found_none c.args.self.now.interfaces c.args.index c.find.result (subst (λ (ps : List Interface). option_copied c.find.result ≡ interface_at ps c.args.index) same c.find.ensures) c.in_default.is at)

pub returns-clause-found : goal.returns-clause-found
returns-clause-found c =
    let same : c.deref.result.now ≡ c.args.self.now.interfaces = c.deref.ensures.value ∙ ap (λ (s : Sim). s.interfaces) c.self.view_is in
    found_some c.args.self.now.interfaces c.args.index c.find.result c.in-Some.interface (subst (λ (ps : List Interface). option_copied c.find.result ≡ interface_at ps c.args.index) same c.find.ensures) c.in-Some.is

pub returns-clause-range : goal.returns-clause-range
returns-clause-range c =
    let same : c.deref.result.now ≡ c.args.self.now.interfaces = c.deref.ensures.value ∙ ap (λ (s : Sim). s.interfaces) c.self.view_is in
    let at : Contains (indexes_of c.args.self.now.interfaces) c.args.index =
    found_some c.args.self.now.interfaces c.args.index c.find.result c.in-Some.interface (subst (λ (ps : List Interface). option_copied c.find.result ≡ interface_at ps c.args.index) same c.find.ensures) c.in-Some.is in
    let are : AreIndexes (indexes_of c.args.self.now.interfaces) = subst (λ (s : Sim). AreIndexes (indexes_of s.interfaces)) c.self.view_is c.self.invariant in
    All-contains (λ i. i < 2 ^ 31) (indexes_of c.args.self.now.interfaces) c.args.index are.small at

pub find-requires : goal.find-requires
find-requires c = subst (λ (ps : List Interface). AreIndexes (indexes_of ps)) (sym c.deref.ensures.value) c.self.invariant
