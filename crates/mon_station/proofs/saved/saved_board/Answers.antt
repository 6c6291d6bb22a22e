use Rattle.std.proofs.Common.{ℕ, List, Vec, Global, Option, sym, subst}
use Rattle.std.specs.Prelude.{option_map}
use Rattle.mon_station.specs.Found.{IsBoardOf, IsFaultOfFound, IsFindingFault}
use Rattle.mon_station.proofs.Windowed.{fault_of_found, finding_image, finding_keeper, found_keeper}
use Rattle.mon_station.proofs.saved.saved_board.Goals as goal

pub returns-in-Ok-board_of-clause-found : goal.returns-in-Ok-board_of-clause-found
returns-in-Ok-board_of-clause-found g c = λ h.
    subst (λ (b : Option (List ℕ)). IsBoardOf c.args.watch.now b c.in-Ok-board_of.board) (sym (c.in-Ok.ensures.found h).body_is) c.in-Ok-board_of.ensures.found

pub returns-in-Err-board_of-clause-fault : goal.returns-in-Err-board_of-clause-fault
returns-in-Err-board_of-clause-fault g c =
    finding_image c.args.watch.now (option_map (λ (v : Vec ℕ Global). v.items) c.in-Ok.body) c.in-Err-board_of.fault c.in-Err-board_of.ensures.fault

pub returns-in-Err-clause-fault : goal.returns-in-Err-clause-fault
returns-in-Err-clause-fault g c = subst IsFindingFault (sym c.from.ensures) (finding_keeper c.in-Err.error.fault c.in-Err.ensures.fault)

pub returns-in-Err-clause-fault_of : goal.returns-in-Err-clause-fault_of
returns-in-Err-clause-fault_of g c = λ h.
    subst (IsFaultOfFound c.args.watch.now (g.D.Disk.seen c.args.disk)) (sym c.from.ensures)
    (found_keeper c.args.watch.now (g.D.Disk.seen c.args.disk) c.in-Err.error.fault c.in-Err.ensures.fault (c.in-Err.ensures.damaged h))

pub returns-in-Err-board_of-clause-fault_of : goal.returns-in-Err-board_of-clause-fault_of
returns-in-Err-board_of-clause-fault_of g c = λ h.
    fault_of_found c.args.watch.now (g.D.Disk.seen c.args.disk) (option_map (λ (v : Vec ℕ Global). v.items) c.in-Ok.body) c.in-Err-board_of.fault (c.in-Ok.ensures.found h) c.in-Err-board_of.ensures.fault
