use Rattle.mon_station_commands.proofs.Joined.{memory_of}
use Rattle.mon_station_commands.proofs.station.open_web.Goals as goal

pub returns-in_err-copies_of-clause-failed : goal.returns-in_err-copies_of-clause-failed
returns-in_err-copies_of-clause-failed g c = memory_of c.args.front.at c.from_residual-in_err-copies_of.result c.from_residual-in_err-copies_of.ensures.1
