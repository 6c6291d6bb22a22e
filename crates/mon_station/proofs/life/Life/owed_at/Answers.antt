use Rattle.std.proofs.Common.{arith, sym}
use Rattle.mon_window.specs.Top.{rising}
use Rattle.mon_station.specs.State.{owed_to, state_of}
use Rattle.mon_station.proofs.Few.{owed_few}
use Rattle.mon_station.proofs.Past.{past_few, past_next, past_room, past_start}
use Rattle.mon_station.proofs.life.Life.owed_at.Goals as goal

pub loop-sample-init : goal.loop-sample-init
loop-sample-init c = past_start (rising (owed_to (state_of c.args.self.now) c.args.slot c.args.instance))

pub loop-sample-preserved : goal.loop-sample-preserved
loop-sample-preserved c =
    past_next (rising (owed_to (state_of c.args.self.now) c.args.slot c.args.instance)) c.loop-sample.count c.loop-sample.after c.in-Some.sample (c.rising_list.ensures.order _) c.loop-sample.invariant (sym c.in-Some.ensures)

pub overflow_add-count : goal.overflow_add-count
overflow_add-count c =
    let s = state_of c.args.self.now in
    let room = past_room (rising (owed_to s c.args.slot c.args.instance)) c.loop-sample.count c.loop-sample.after c.in-Some.sample c.loop-sample.invariant (sym c.in-Some.ensures) in
    omega (arith, room, owed_few s c.settled.ensures.settled c.args.slot c.args.instance)

pub returns-clause-few : goal.returns-clause-few
returns-clause-few c =
    let s = state_of c.args.self.now in
    omega (arith, owed_few s c.settled.ensures.settled c.args.slot c.args.instance, past_few (rising (owed_to s c.args.slot c.args.instance)) c.loop-sample.count c.loop-sample.after c.loop-sample.invariant)
