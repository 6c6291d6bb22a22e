use Rattle.std.proofs.Common.{◌≡◌, length, rules, arith}
use Rattle.std.proofs.lemmas.List.{length-map}
use Rattle.mon_mib.specs.declared.interface.Interface.{Interface}
use Rattle.mon_mib.specs.Sim.{indexes_of}
use Rattle.mon_mib.proofs.Counting.{few}
use Rattle.mon_mib.proofs.sim_device.SimDeviceDevice.interface_count.Goals as goal

pub overflow_cast-result : goal.overflow_cast-result
overflow_cast-result c =
    let held : c.len.result ≡ length c.self.inside.interfaces.items = search rules in
    let small = few (indexes_of c.self.inside.interfaces.items) c.self.invariant in
    record { fits = omega (arith, held, small, length-map c.self.inside.interfaces.items (λ (p : Interface). p.index)) }

pub returns-clause-range : goal.returns-clause-range
returns-clause-range c =
    let held : c.len.result ≡ length c.self.inside.interfaces.items = search rules in
    let small = few (indexes_of c.self.inside.interfaces.items) c.self.invariant in
    omega (arith, held, small, length-map c.self.inside.interfaces.items (λ (p : Interface). p.index))
