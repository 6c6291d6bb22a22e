use Rattle.std.proofs.Common.{option_map}
use Rattle.mon_station_commands.proofs.Steps.{failure_is}
use Rattle.mon_station_commands.proofs.Checked.{checked, fileless}
use Rattle.mon_station_commands.proofs.station.check_station.Goals as goal

pub returns-in_err-require_file : goal.returns-in_err-require_file
returns-in_err-require_file g c =
    let words = c.args.words in
    let failure = c.in_err-require_file.field-0.0 in
    let r = c.from_residual-in_err-require_file.result in
    fileless words.settings.now (option_map (λ l. l.now) words.labels) words.printed words.timing.interval c.in_ok-settings.settings c.in_ok-settings.field-0-1 c.deref.result.now failure r
    (g.H.Host.log c.args.host.now) (g.H.Host.log c.read_labelled_station.new.host) (failure_is r failure c.from_residual-in_err-require_file.ensures.1) c.deref.ensures
    c.in_ok-settings.ensures c.in_err-require_file.ensures

pub returns : goal.returns
returns g c =
    let words = c.args.words in
    checked words.settings.now (option_map (λ l. l.now) words.labels) words.printed words.timing.interval c.in_ok-settings.settings c.in_ok-settings.field-0-1 c.deref.result.now
    c.in_ok-require_file.field-0 c.print_limits.result (g.H.Host.log c.args.host.now) (g.H.Host.log c.read_labelled_station.new.host) (g.H.Host.log c.print_limits.new.host)
    c.deref.ensures c.in_ok-settings.ensures c.in_ok-require_file.ensures c.print_limits.ensures
