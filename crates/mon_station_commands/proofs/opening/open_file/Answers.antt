use Rattle.mon_station_commands.proofs.Joined.{file_opened, file_unopened}
use Rattle.mon_station_commands.proofs.Steps.{failure_is}
use Rattle.mon_station_commands.proofs.opening.open_file.Goals as goal

pub returns-in_err-disk : goal.returns-in_err-disk
returns-in_err-disk g c =
    file_unopened c.args.settings.now _ _ c.in_err-disk.field-0.0 c.from_residual.result (g.H.Host.log c.args.host.now) c.deref.ensures
    (failure_is c.from_residual.result c.in_err-disk.field-0.0 c.from_residual.ensures.1) c.in_err-disk.ensures

pub returns : goal.returns
returns g c = file_opened c.args.settings.now _ c.size.new.self c.size.result (g.H.Host.log c.args.host.now) (g.H.Host.log c.warn_of_short.new.host) c.deref-3.ensures c.warn_of_short.ensures
