use Rattle.mon_station.specs.Stops.{MayFind, last_disk}
use Rattle.mon_station.proofs.Stopping.{finds_next, next_later, next_on, one_undamaged, sound_after}
use Rattle.mon_station.proofs.laws.stops.Goals as goal

pub returns-clause-left : goal.returns-clause-left
returns-clause-left g c = λ first history is.
    let D = g.met.D.Disk in
    (sound_after c.read_back.ensures.kept g.D.Disk D.counts_now D.seen_now first history is).left

pub returns-clause-undamaged : goal.returns-clause-undamaged
returns-clause-undamaged g c = λ first history is.
    let D = g.met.D.Disk in
    let sound = sound_after c.read_back.ensures.kept g.D.Disk D.counts_now D.seen_now first history is in
    one_undamaged (MayFind g.D.Disk first history) (g.D.Disk.seen (last_disk first history)) (finds_next c.read_back.ensures.kept g.D.Disk D.counts_now D.seen_now first history sound)

pub returns-clause-opened : goal.returns-clause-opened
returns-clause-opened g c = λ first disk past w s is.
    let D = g.met.D.Disk in
    let sound = sound_after c.read_back.ensures.kept g.D.Disk D.counts_now D.seen_now first past is.2 in
    let one = finds_next c.read_back.ensures.kept g.D.Disk D.counts_now D.seen_now first past sound in
    (one.0, one.1, next_on c.read_back.ensures.kept g.D.Disk D.counts_now D.seen_now first past w s sound is.1.begun)

pub returns-clause-later : goal.returns-clause-later
returns-clause-later g c = λ first disk past w s is.
    let D = g.met.D.Disk in
    let sound = sound_after c.read_back.ensures.kept g.D.Disk D.counts_now D.seen_now first past is.2 in
    next_later c.read_back.ensures.kept g.D.Disk D.counts_now D.seen_now first past w s sound is.1.begun
