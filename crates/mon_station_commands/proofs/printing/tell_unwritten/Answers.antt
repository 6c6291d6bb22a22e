use Rattle.mon_station_commands.proofs.Steps.{unwritten_said}
use Rattle.mon_station_commands.proofs.printing.tell_unwritten.Goals as goal

pub returns : goal.returns
returns g c = unwritten_said c.args.round c.args.path.now c.args.failure.now (g.H.Host.log c.args.host.now) (g.H.Host.log c.note.new.self) (g.H.Host.log c.report.new.host) c.note.ensures c.report.ensures
