use Rattle.mon_station_commands.proofs.Notified.{all_next, each_next}
use Rattle.mon_station_commands.specs.Notifying.{IsPut}
use Rattle.mon_station_commands.proofs.notifying.put_devices.Goals as goal

pub loop-place-preserved : goal.loop-place-preserved
loop-place-preserved c =
    let step = IsPut c.args.look.printing.now c.args.look.seen c.args.targets.now in
    let put = c.put_device-put in
    let next = c.or_lost-done in (
      all_next step c.args.changes.now c.loop-place.place _ c.args.courier.now c.loop-place.courier put.new.courier next.new.courier put.result c.loop-place.done next.result
          c.loop-place-test.true c.loop-place.invariant.0 put.ensures.put next.ensures.put next.ensures.all,
      each_next step c.args.changes.now c.loop-place.place _ c.args.courier.now c.loop-place.courier put.new.courier next.new.courier put.result
          c.loop-place-test.true c.loop-place.invariant.1 put.ensures.put put.ensures.same next.ensures.put next.ensures.lost,
    )
