use Rattle.std.proofs.Common.{List, ℕ, sym, subst}
use Rattle.mon_disk.specs.Keeper.{found_body}
use Rattle.mon_station.specs.Found.{IsBoardOf, IsFaultOfFound, IsFaultOfOctets}
use Rattle.mon_station.proofs.Windowed.{of_octets}
use Rattle.mon_station.proofs.saved.board_in.Goals as goal

pub returns-in-Ok-clause-found : goal.returns-in-Ok-clause-found
returns-in-Ok-clause-found c =
    subst (λ (file : List ℕ). IsBoardOf c.args.watch.now (found_body file) c.in-Ok.board) c.in_ok-disk.ensures.octets (c.in-Ok.ensures.found tt)

pub returns-clause-fault : goal.returns-clause-fault
returns-clause-fault c =
    subst (IsFaultOfOctets c.args.watch.now c.args.octets.now) (sym c.in_memory.ensures)
    (of_octets c.args.watch.now c.args.octets.now c.in-Err.fault
    (subst (λ (file : List ℕ). IsFaultOfFound c.args.watch.now file c.in-Err.fault) c.in_ok-disk.ensures.octets (c.in-Err.ensures.fault_of tt)))
