use Rattle.std.proofs.Common.{refl}
use Rattle.mon_station_commands.specs.Spans.{is_round}
use Rattle.mon_station_commands.proofs.Accounts.{not_timed, timed, timed_at}
use Rattle.mon_station_commands.proofs.Quiets.{quiet_on, since, stopped_on, undated, untimed}
use Rattle.mon_station_commands.proofs.Steps.{failure_is}
use Rattle.mon_station_commands.proofs.live.run_timed.Goals as goal

pub returns-in_err-began-clause-timed : goal.returns-in_err-began-clause-timed
returns-in_err-began-clause-timed g c =
    let start = g.H.Host.log c.args.host.now in
    let began = g.H.Host.log c.passed.new.host in
    let failure = c.in_err-began.field-0.0 in
    not_timed (is_round c.args.span) c.args.live.now.kept.round_at failure c.from_residual.result start began (failure_is c.from_residual.result failure c.from_residual.ensures.1) (untimed failure start began c.in_err-began.ensures)

pub returns-in_err-live-clause-timed : goal.returns-in_err-live-clause-timed
returns-in_err-live-clause-timed g c =
    let start = g.H.Host.log c.args.host.now in
    let began = g.H.Host.log c.passed.new.host in
    let ended = g.H.Host.log c.passed-2.new.host in
    let failure = c.in_err-live.field-0.0 in
    let r = c.from_residual-in_err-live.result in
    not_timed (is_round c.args.span) c.args.live.now.kept.round_at failure r start ended (failure_is r failure c.from_residual-in_err-live.ensures.1)
    (stopped_on failure start began ended (since start began _ _ c.in_ok-began.ensures) (untimed failure began ended c.in_err-live.ensures))

pub returns-in_err-date-clause-timed : goal.returns-in_err-date-clause-timed
returns-in_err-date-clause-timed g c =
    let start = g.H.Host.log c.args.host.now in
    let began = g.H.Host.log c.passed.new.host in
    let ended = g.H.Host.log c.passed-2.new.host in
    let dated = g.H.Host.log c.wall_time.new.host in
    let failure = c.in_err-date.field-0.0 in
    let r = c.from_residual-in_err-date.result in
    not_timed (is_round c.args.span) c.args.live.now.kept.round_at failure r start dated (failure_is r failure c.from_residual-in_err-date.ensures.1)
    (stopped_on failure start ended dated (quiet_on start began ended (since start began _ _ c.in_ok-began.ensures) (since began ended _ _ c.in_ok-live.ensures))
    (undated failure ended dated c.in_err-date.ensures))

pub returns-in-Ok-clause-timed : goal.returns-in-Ok-clause-timed
returns-in-Ok-clause-timed g c =
    timed {T = Unit {0}} tt c.args.span _ _ _ _ _ _ _ (g.H.Host.log c.args.host.now) (g.H.Host.log c.passed.new.host) (g.H.Host.log c.passed-2.new.host) (g.H.Host.log c.wall_time.new.host)
    c.in_ok-began.ensures c.in_ok-live.ensures c.in_ok-date.ensures c.round_after-live.ensures.whole c.round_after-live.ensures.between

pub returns-in-Err-clause-timed : goal.returns-in-Err-clause-timed
returns-in-Err-clause-timed g c =
    timed {T = Unit {0}} tt c.args.span _ _ _ _ _ _ _ (g.H.Host.log c.args.host.now) (g.H.Host.log c.passed.new.host) (g.H.Host.log c.passed-2.new.host) (g.H.Host.log c.wall_time.new.host)
    c.in_ok-began.ensures c.in_ok-live.ensures c.in_ok-date.ensures c.round_after-live.ensures.whole c.round_after-live.ensures.between

pub returns-in-Ok-clause-at : goal.returns-in-Ok-clause-at
returns-in-Ok-clause-at g c =
    timed_at c.args.live.now.origin _ _ _ _ (g.H.Host.log c.args.host.now) (g.H.Host.log c.passed.new.host) (g.H.Host.log c.passed-2.new.host) (g.H.Host.log c.wall_time.new.host)
    c.in_ok-began.ensures c.in_ok-live.ensures c.in_ok-date.ensures refl

pub returns-in-Err-clause-at : goal.returns-in-Err-clause-at
returns-in-Err-clause-at g c =
    timed_at c.args.live.now.origin _ _ _ _ (g.H.Host.log c.args.host.now) (g.H.Host.log c.passed.new.host) (g.H.Host.log c.passed-2.new.host) (g.H.Host.log c.wall_time.new.host)
    c.in_ok-began.ensures c.in_ok-live.ensures c.in_ok-date.ensures refl
