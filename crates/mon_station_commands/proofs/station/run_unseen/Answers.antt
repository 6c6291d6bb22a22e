use Rattle.std.proofs.Common.{length}
use Rattle.std.specs.Prelude.{Ok, Err}
use Rattle.mon_station.specs.State.{state_of}
use Rattle.mon_station_commands.proofs.Joined.{run_of, started, unseen_run, unseen_unheard, unseen_unopened, unseen_unstarted}
use Rattle.mon_station_commands.proofs.Steps.{failure_is}
use Rattle.mon_station_commands.proofs.station.run_unseen.Goals as goal

pub returns-in_err-socket : goal.returns-in_err-socket
returns-in_err-socket g c =
    let failure = c.in_err-socket.field-0.0 in
    let r = c.from_residual.result in
    unseen_unopened c.args.words c.args.setup.reports c.args.setup.settings failure r (g.H.Host.log c.args.host.now) (g.H.Host.log c.open_unseen.new.host)
    (failure_is r failure c.from_residual.ensures.1) c.in_err-socket.ensures

pub returns-in_err-transport : goal.returns-in_err-transport
returns-in_err-transport g c =
    let failure = c.in_err-transport.field-0.0 in
    let r = c.from_residual-in_err-transport.result in
    unseen_unheard c.args.words c.args.setup.reports c.args.setup.settings c.in_ok-socket.place.at failure r (g.H.Host.log c.args.host.now)
    (g.H.Host.log c.open_unseen.new.host) (failure_is r failure c.from_residual-in_err-transport.ensures.1) c.in_ok-socket.ensures c.in_err-transport.ensures.failed

pub returns-in_err-live : goal.returns-in_err-live
returns-in_err-live g c =
    let failure = c.in_err-live.field-0.0 in
    let r = c.from_residual-in_err-live.result in
    let t = c.in_ok-transport.transport in
    let s = c.args.setup.settings in
    let is = c.in_ok-transport.ensures in
    let opened = g.H.Host.log c.open_unseen.new.host in
    let end = g.H.Host.log c.start_station.new.host in
    unseen_unstarted c.args.words c.args.setup.reports s c.in_ok-socket.place.at failure r (g.H.Host.log c.args.host.now) opened end
    (failure_is r failure c.from_residual-in_err-live.ensures.1) c.in_ok-socket.ensures
    (started c.args.setup.reports.printing s c.in_ok-socket.place.at t.number (length t.engines.items) t.peers.items (Err failure) opened end
    is.number is.engines is.peers c.in_err-live.ensures.opening)

pub returns : goal.returns
returns g c =
    let t = c.in_ok-transport.transport in
    let s = c.args.setup.settings in
    let reports = c.args.setup.reports in
    let is = c.in_ok-transport.ensures in
    let live = c.in_ok-live.live in
    let opened = g.H.Host.log c.open_unseen.new.host in
    let begun = g.H.Host.log c.start_station.new.host in
    let end = g.H.Host.log c.run_rounds.new.host in
    let same = c.in_ok-live.ensures.reports in
    unseen_run c.args.words reports s c.in_ok-socket.place.at (state_of live.station.life) c.run_rounds.result (g.H.Host.log c.args.host.now) opened begun end c.in_ok-socket.ensures
    (started reports.printing s c.in_ok-socket.place.at t.number (length t.engines.items) t.peers.items (Ok (state_of live.station.life)) opened begun
    is.number is.engines is.peers c.in_ok-live.ensures.opening)
    (run_of c.args.words reports s live.reports live.kept c.run_rounds.result begun end (λ i. (same i).printing) (λ i. (same i).paths)
    c.in_ok-live.ensures.kept c.run_rounds.ensures)
