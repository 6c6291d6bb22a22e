use Rattle.mon_station_commands.proofs.Joined.{no_place_shown, no_socket_shown, no_web, shown_opened}
use Rattle.mon_station_commands.proofs.Steps.{failure_is}
use Rattle.mon_station_commands.proofs.station.open_shown.Goals as goal

pub returns-in_err-socket : goal.returns-in_err-socket
returns-in_err-socket g c =
    let failure = c.in_err-socket.field-0.0 in
    let r = c.from_residual.result in
    no_socket_shown c.args.settings.now c.args.front.at c.open-given.result (λ shown. (shown.place.at, shown.at)) failure r (g.H.Host.log c.args.host.now)
    (g.H.Host.log c.or_no_socket.new.host) (failure_is r failure c.from_residual.ensures.1) c.in_err-socket.ensures

pub returns-in_err-web : goal.returns-in_err-web
returns-in_err-web g c =
    let failure = c.in_err-web.field-0.0 in
    let r = c.from_residual-in_err-web.result in
    no_web c.args.settings.now c.args.front.at c.open-given.result c.in_ok-socket.socket (λ shown. (shown.place.at, shown.at)) failure r
    (g.H.Host.log c.args.host.now) (g.H.Host.log c.or_no_socket.new.host) (failure_is r failure c.from_residual-in_err-web.ensures.1)
    c.in_ok-socket.ensures c.in_err-web.ensures.failed

pub returns-in_err-place : goal.returns-in_err-place
returns-in_err-place g c =
    let failure = c.in_err-place.field-0.0 in
    let r = c.from_residual-in_err-place.result in
    no_place_shown c.args.settings.now c.args.front.at c.open-given.result c.in_ok-socket.socket c.in_ok-web.at c.address.result
    (λ shown. (shown.place.at, shown.at)) failure r (g.H.Host.log c.args.host.now) (g.H.Host.log c.or_no_socket.new.host) (g.H.Host.log c.open_place.new.host)
    (failure_is r failure c.from_residual-in_err-place.ensures.1) c.in_ok-socket.ensures c.in_err-place.ensures

pub returns : goal.returns
returns g c =
    shown_opened c.args.settings.now c.args.front.at c.open-given.result c.in_ok-socket.socket c.in_ok-web.at c.in_ok-place.place.at c.address.result
    (g.H.Host.log c.args.host.now) (g.H.Host.log c.or_no_socket.new.host) (g.H.Host.log c.open_place.new.host) c.in_ok-socket.ensures c.in_ok-place.ensures
