use Rattle.std.proofs.Common.{List, Option, ℕ, ap, sym, subst, ◌∙◌}
use Rattle.mon_disk.specs.Disk.{Leaves}
use Rattle.mon_disk.specs.Keeper.{FindsBody}
use Rattle.mon_disk.specs.Kept.{device_of}
use Rattle.mon_station.specs.Fault.{keeper_refusal}
use Rattle.mon_station.specs.Saved.{IsMovingFault}
use Rattle.mon_station.proofs.Moves.{moving_fault, only_damaged}
use Rattle.mon_station.proofs.station.Station.move_to.Goals as goal

pub returns-in-Ok-clause-found : goal.returns-in-Ok-clause-found
returns-in-Ok-clause-found g c = λ h.
    subst (λ (b : Option (List ℕ)). FindsBody b (g.D.Disk.seen c.args.disk)) (sym (c.in-Ok.ensures.last h)) (c.in-Ok.ensures.found h)

pub returns-in-Ok-clause-kept : goal.returns-in-Ok-clause-kept
returns-in-Ok-clause-kept g c = λ h.
    subst (λ (b : Option (List ℕ)). Leaves (g.D.Disk.may_leave (device_of c.in-Ok.keeper)) (FindsBody b)) (sym (c.in-Ok.ensures.last h)) (c.in-Ok.ensures.kept h)

pub returns-clause-fault : goal.returns-clause-fault
returns-clause-fault g c = subst IsMovingFault (sym c.from.ensures) (moving_fault c.in-Err.error.fault c.in-Err.ensures.fault)

pub returns-clause-damaged : goal.returns-clause-damaged
returns-clause-damaged g c = λ h is. c.in-Err.ensures.damaged h (only_damaged c.in-Err.error.fault (sym c.from.ensures ∙ is))

pub returns-clause-unwritten : goal.returns-clause-unwritten
returns-clause-unwritten g c = λ h other. c.in-Err.ensures.unchanged h (λ is. other (c.from.ensures ∙ ap keeper_refusal is))
