use Rattle.std.proofs.Common.{◌≡◌, None, [], sym, subst, arith}
use Rattle.mon_disk.specs.Keeper.{FindsBody}
use Rattle.mon_disk.specs.Memory.{memory_octets}
use Rattle.mon_world.specs.Fault.{IsFaultOfNew}
use Rattle.mon_world.proofs.Unopened.{first_refused}
use Rattle.mon_world.proofs.opening.open_first.Goals as goal

pub returns-clause-fault : goal.returns-clause-fault
returns-clause-fault c =
    let file = memory_octets c.in_ok-disk.disk in
    let empty : file ≡ [] = c.in_ok-disk.ensures.octets in
    let none : FindsBody None file = subst (FindsBody None) (sym empty) (c.never_saved.ensures [] (omega arith)) in
    subst (IsFaultOfNew c.args.count) (sym c.opening_fault.ensures) (first_refused _ c.args.count file c.in-Err.fault none (c.in-Err.ensures.fault_of tt))
