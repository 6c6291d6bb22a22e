use Rattle.std.proofs.Common.{◌-◌, ◌+◌, ◌∙◌, ap, length, map, get_or}
use Rattle.mon_placing.specs.Machines.{listed}
use Rattle.mon_placing.specs.Network.{nowhere}
use Rattle.mon_placing.proofs.Seats.{inside, listed_at}
use Rattle.mon_placing.proofs.network.Seat.machine.Goals as goal

pub bounds-machines-place : goal.bounds-machines-place
bounds-machines-place c =
    let n = c.args.self.network in
    inside n.stations (length n.machines.now) (n.first - 1 + c.args.self.part) c.args.self.station c.machine_of-place.result c.requires.placed.machines.0 c.machine_of-place.ensures

pub returns : goal.returns
returns c =
    let n = c.args.self.network in
    let below = inside n.stations (length n.machines.now) (n.first - 1 + c.args.self.part) c.args.self.station c.machine_of-place.result c.requires.placed.machines.0 c.machine_of-place.ensures in
    listed_at n.machines.now c.machine_of-place.result c.index-machines-place.result below c.index-machines-place.is
    ∙ ap (λ i. get_or (map listed n.machines.now) i nowhere) c.machine_of-place.ensures
