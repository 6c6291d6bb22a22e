use Rattle.mon_station_commands.proofs.Quiets.{lines, no_wait, quiet_on, since, stopped_on, untimed}
use Rattle.mon_station_commands.proofs.Steps.{failure_is}
use Rattle.mon_station_commands.proofs.Notified.{served_next, unfilled, unserved}
use Rattle.mon_station_commands.proofs.pace.wait_for_next.Goals as goal

pub returns-in_err-pause-clause-quiet : goal.returns-in_err-pause-clause-quiet
returns-in_err-pause-clause-quiet g c =
    let start = g.H.Host.log c.args.host.now in
    let timed = g.H.Host.log c.passed.new.host in
    let told = g.H.Host.log c.tell_outrun.new.host in
    let end = g.H.Host.log c.pause.new.host in
    let failure = c.in_err-pause.field-0.0 in
    let r = c.from_residual-in_err-pause.result in
    no_wait failure r start end (failure_is r failure c.from_residual-in_err-pause.ensures.1)
    (stopped_on failure start told end (quiet_on start timed told (since start timed _ _ c.in_ok-passed.ensures) (lines timed told _ c.tell_outrun.ensures))
    c.in_err-pause.ensures.quiet)

pub returns-clause-quiet : goal.returns-clause-quiet
returns-clause-quiet g c =
    let start = g.H.Host.log c.args.host.now in
    let timed = g.H.Host.log c.passed.new.host in
    let told = g.H.Host.log c.tell_outrun.new.host in
    let end = g.H.Host.log c.pause.new.host in
    quiet_on start told end (quiet_on start timed told (since start timed _ _ c.in_ok-passed.ensures) (lines timed told _ c.tell_outrun.ensures)) c.in_ok-pause.ensures.quiet

pub returns-in_err-passed-clause-quiet : goal.returns-in_err-passed-clause-quiet
returns-in_err-passed-clause-quiet g c =
    let start = g.H.Host.log c.args.host.now in
    let timed = g.H.Host.log c.passed.new.host in
    let failure = c.in_err-passed.field-0.0 in
    let r = c.from_residual.result in
    no_wait failure r start timed (failure_is r failure c.from_residual.ensures.1) (untimed failure start timed c.in_err-passed.ensures)

pub returns-then-pace-eq0-clause-served : goal.returns-then-pace-eq0-clause-served
returns-then-pace-eq0-clause-served g c =
    let live = c.args.live.now in
    served_next live.ended live.ended live.ended c.deliver.new.live.ended live.courier live.courier live.courier c.deliver.new.live.courier (g.H.Host.log c.args.host.now) (g.H.Host.log c.deliver.new.host)
    (unserved live.ended live.courier) (unfilled live.courier) c.deliver.ensures.turn c.deliver.ensures.ended
