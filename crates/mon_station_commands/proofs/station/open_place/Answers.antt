use Rattle.mon_station_commands.proofs.Joined.{no_address, no_file, no_time, place_is}
use Rattle.mon_station_commands.proofs.Steps.{failure_is}
use Rattle.mon_station_commands.proofs.station.open_place.Goals as goal

pub returns-in_err-disk : goal.returns-in_err-disk
returns-in_err-disk g c =
    let failure = c.in_err-disk.field-0.0 in
    let r = c.from_residual.result in
    no_file c.args.settings.now c.args.address (λ place. place.at) failure r (g.H.Host.log c.args.host.now) (g.H.Host.log c.open_file.new.host)
    (failure_is r failure c.from_residual.ensures.1) c.in_err-disk.ensures

pub returns-in_err-at : goal.returns-in_err-at
returns-in_err-at g c =
    let failure = c.in_err-at.field-0.0 in
    let r = c.from_residual-in_err-at.result in
    no_address c.args.settings.now c.args.address (λ place. place.at) failure r (g.H.Host.log c.args.host.now) (g.H.Host.log c.open_file.new.host)
    (failure_is r failure c.from_residual-in_err-at.ensures.1) c.in_ok-disk.ensures c.in_err-at.ensures

pub returns-in_err-origin : goal.returns-in_err-origin
returns-in_err-origin g c =
    let failure = c.in_err-origin.field-0.0 in
    let r = c.from_residual-in_err-origin.result in
    no_time c.args.settings.now c.args.address (λ place. place.at) c.in_ok-at.at failure r (g.H.Host.log c.args.host.now) (g.H.Host.log c.open_file.new.host)
    (g.H.Host.log c.now.new.host) (failure_is r failure c.from_residual-in_err-origin.ensures.1) c.in_ok-disk.ensures c.in_ok-at.ensures c.in_err-origin.ensures

pub returns : goal.returns
returns g c =
    place_is c.args.settings.now c.args.address c.in_ok-at.at c.in_ok-origin.origin (g.H.Host.log c.args.host.now) (g.H.Host.log c.open_file.new.host)
    (g.H.Host.log c.now.new.host) c.in_ok-disk.ensures c.in_ok-at.ensures c.in_ok-origin.ensures
