use Rattle.std.proofs.Common.{sym, subst}
use Rattle.mon_poller.specs.Poller.{Poller}
use Rattle.mon_station.specs.ReadEvent.{Timeout}
use Rattle.mon_station.specs.State.{state_of}
use Rattle.mon_station.specs.Told.{IsAnswered}
use Rattle.mon_station.proofs.Handled.{by_memory, timed_out, with_poller}
use Rattle.mon_station.proofs.life.Life.timeout.Goals as goal

pub returns-in_err-room-clause-answered : goal.returns-in_err-room-clause-answered
returns-in_err-room-clause-answered c = by_memory (state_of c.args.self.now) c.settled.ensures.settled _ c.from_residual.result c.from_residual.ensures.1

pub returns-in_err-timed_out-clause-answered : goal.returns-in_err-timed_out-clause-answered
returns-in_err-timed_out-clause-answered c =
    let s = state_of c.args.self.now in
    subst (λ (p : Poller). IsAnswered s (with_poller s p) (Timeout c.args.id) c.from_residual-in_err-timed_out.result) (sym c.in_err-timed_out.ensures.refused)
    (by_memory s c.settled.ensures.settled _ c.from_residual-in_err-timed_out.result c.from_residual-in_err-timed_out.ensures.1)

pub returns-clause-answered : goal.returns-clause-answered
returns-clause-answered c =
    let told = c.told_timeout.ensures in
    timed_out (state_of c.args.self.now) c.settled.ensures.settled c.args.id _ c.told_timeout.result c.in_ok-timed_out.timed_out c.in_ok-timed_out.ensures.polls told.taken told.sends told.noted told.given_up told.answered c.in_ok-timed_out.ensures.verdict
