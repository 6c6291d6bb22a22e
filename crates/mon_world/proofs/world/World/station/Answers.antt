use Rattle.std.proofs.Common.{length, subst, sym}
use Rattle.mon_world.specs.Fault.{IsStationCause}
use Rattle.mon_world.specs.Places.{HasNumber}
use Rattle.mon_world.proofs.Stations.{get_at, number_at}
use Rattle.mon_world.proofs.world.World.station.Goals as goal

pub returns-in-Ok : goal.returns-in-Ok
returns-in-Ok c =
    let stations = c.args.self.now.stations.items in
    let station = c.index.result.now in
    record {
      there = subst (λ number. HasNumber stations number station) (sym c.in-Ok.ensures.place) (number_at stations c.in-Ok.place station (get_at stations c.in-Ok.place station c.in-Ok.ensures.within c.index.ensures));
      none = λ is. absurd (cc);
    }

pub returns-in-Err : goal.returns-in-Err
returns-in-Err c = record {
  there = tt;
  none = λ is. subst (IsStationCause (length c.args.self.now.stations.items) c.args.number) c.in-Err.ensures.strange c.in-Err.ensures.fault;
}
