use Rattle.std.proofs.Common.{ap, ◌∙◌}
use Rattle.mon_poller.specs.Target.{poll_octets, target_at}
use Rattle.mon_station.specs.Told.{to_target}
use Rattle.mon_station.proofs.Faults.{started_id}
use Rattle.mon_station.specs.State.{state_of}
use Rattle.mon_station.proofs.Handled.{by_memory, start_refused, started}
use Rattle.mon_station.proofs.life.Life.start_poll.Goals as goal

pub returns-in_err-room-clause-answered : goal.returns-in_err-room-clause-answered
returns-in_err-room-clause-answered c = by_memory (state_of c.args.self.now) c.settled.ensures.settled _ c.from_residual.result c.from_residual.ensures.1

pub returns-in-Ok-clause-answered : goal.returns-in-Ok-clause-answered
returns-in-Ok-clause-answered c =
    let told = c.told_one.ensures in
    started (state_of c.args.self.now) c.settled.ensures.settled c.args.target _ _ c.told_one.result _ c.in-Ok.ensures.id c.in-Ok.ensures.started told.taken told.sends told.noted told.given_up told.answered
    (ap (to_target c.args.target) (c.in-Ok.ensures.octets ∙ ap (poll_octets (target_at c.args.self.now.poller.targets c.args.target)) (started_id c.args.self.now.poller.targets c.args.self.now.poller.polls c.args.target _ c.in-Ok.ensures.id)))

pub returns-in-Err-clause-answered : goal.returns-in-Err-clause-answered
returns-in-Err-clause-answered c = start_refused (state_of c.args.self.now) c.settled.ensures.settled c.args.target c.in-Err.fault c.from.result _ c.from.ensures c.in-Err.ensures.refused c.in-Err.ensures.fault
