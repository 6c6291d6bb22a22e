use Rattle.mon_console.specs.Files.{IsPublishing}
use Rattle.mon_file_commands.proofs.Promised.{no_memory}
use Rattle.mon_station_commands.proofs.Steps.{filed}
use Rattle.mon_station_commands.proofs.printing.write_file.Goals as goal

pub returns-in_err-text : goal.returns-in_err-text
returns-in_err-text g c = no_memory _ (IsPublishing c.args.path.now) c.from_residual.result (g.H.Host.log c.args.host.now) c.from_residual.ensures.1

pub returns : goal.returns
returns g c =
    filed _ c.args.path.now c.in_ok-text.text.items c.as_slice.result.now c.publish_file.result (g.H.Host.log c.args.host.now) (g.H.Host.log c.publish_file.new.host)
    c.in_ok-text.ensures c.as_slice.ensures.value c.publish_file.ensures
