use Rattle.std.proofs.Common.{arith}
use Rattle.mon_station.specs.State.{owed_to, state_of}
use Rattle.mon_station.proofs.Few.{one_below}
use Rattle.mon_station.proofs.life.Life.owed_count.Goals as goal

pub loop-place-preserved : goal.loop-place-preserved
loop-place-preserved c =
    let one = c.owed_at-count.ensures in
    record {
      is = omega (arith, c.loop-place.invariant.is, one.count, one_below (owed_to (state_of c.args.self.now) c.args.slot) c.loop-place.place);
      few = omega (arith, c.loop-place.invariant.few, one.few);
    }
