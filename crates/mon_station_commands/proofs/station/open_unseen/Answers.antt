use Rattle.mon_station_commands.proofs.Joined.{a_place, no_place, no_socket}
use Rattle.mon_station_commands.proofs.Steps.{failure_is}
use Rattle.mon_station_commands.proofs.station.open_unseen.Goals as goal

pub returns-in_err-socket : goal.returns-in_err-socket
returns-in_err-socket g c =
    let failure = c.in_err-socket.field-0.0 in
    let r = c.from_residual.result in
    no_socket c.args.settings.now c.open-given.result (λ both. both.1.at) failure r (g.H.Host.log c.args.host.now) (g.H.Host.log c.or_no_socket.new.host)
    (failure_is r failure c.from_residual.ensures.1) c.in_err-socket.ensures

pub returns-in_err-place : goal.returns-in_err-place
returns-in_err-place g c =
    let failure = c.in_err-place.field-0.0 in
    let r = c.from_residual-in_err-place.result in
    no_place c.args.settings.now c.open-given.result c.in_ok-socket.socket c.address.result (λ both. both.1.at) failure r (g.H.Host.log c.args.host.now)
    (g.H.Host.log c.or_no_socket.new.host) (g.H.Host.log c.open_place.new.host) (failure_is r failure c.from_residual-in_err-place.ensures.1)
    c.in_ok-socket.ensures c.in_err-place.ensures

pub returns : goal.returns
returns g c =
    a_place c.args.settings.now c.open-given.result c.in_ok-socket.socket c.address.result _ (g.H.Host.log c.args.host.now)
    (g.H.Host.log c.or_no_socket.new.host) (g.H.Host.log c.open_place.new.host) c.in_ok-socket.ensures c.in_ok-place.ensures
