use Rattle.std.proofs.Common.{◌≡◌, List, ◌∙◌, ap, sym, subst}
use Rattle.std.specs.Prelude.{find}
use Rattle.std.specs.Option.{option_copied}
use Rattle.mon_mib.specs.declared.interface.Interface.{Interface}
use Rattle.mon_mib.specs.Held.{AreIndexes}
use Rattle.mon_mib.specs.Sim.{Sim, indexes_of, is_over}
use Rattle.mon_mib.proofs.Simulated.{least_some, least_none}
use Rattle.mon_mib.proofs.sim_device.SimDeviceDevice.next_index.Goals as goal

pub returns-in_default-clause-least : goal.returns-in_default-clause-least
returns-in_default-clause-least c =
    let same : c.deref.result.now ≡ c.args.self.now.interfaces = c.deref.ensures.value ∙ ap (λ (s : Sim). s.interfaces) c.self.view_is in
    let are : AreIndexes (indexes_of c.args.self.now.interfaces) = subst (λ (s : Sim). AreIndexes (indexes_of s.interfaces)) c.self.view_is c.self.invariant in
    least_none c.args.after c.args.self.now.interfaces c.above.result are (subst (λ (ps : List Interface). option_copied c.above.result ≡ find (λ q. is_over c.args.after q.index) ps) same c.above.ensures) c.in_default.is

pub returns-clause-least : goal.returns-clause-least
returns-clause-least c =
    let same : c.deref.result.now ≡ c.args.self.now.interfaces = c.deref.ensures.value ∙ ap (λ (s : Sim). s.interfaces) c.self.view_is in
    let are : AreIndexes (indexes_of c.args.self.now.interfaces) = subst (λ (s : Sim). AreIndexes (indexes_of s.interfaces)) c.self.view_is c.self.invariant in
    least_some c.args.after c.args.self.now.interfaces c.above.result c.in-Some.next are (subst (λ (ps : List Interface). option_copied c.above.result ≡ find (λ q. is_over c.args.after q.index) ps) same c.above.ensures) c.in-Some.is

pub above-requires : goal.above-requires
above-requires c = subst (λ (ps : List Interface). AreIndexes (indexes_of ps)) (sym c.deref.ensures.value) c.self.invariant
