use Rattle.mon_station_commands.proofs.Joined.{memory_of, unhad_of}
use Rattle.mon_station_commands.proofs.live.open_transport.Goals as goal

pub returns-in_err-receiver-clause-failed : goal.returns-in_err-receiver-clause-failed
returns-in_err-receiver-clause-failed g c =
    unhad_of c.args.settings.now.listen c.args.receiver c.in_err-receiver.field-0.0 c.from_residual.result c.from_residual.ensures.1 c.in_err-receiver.ensures

pub returns-in_err-addresses_of-clause-failed : goal.returns-in_err-addresses_of-clause-failed
returns-in_err-addresses_of-clause-failed g c =
    memory_of c.args.settings.now.listen c.from_residual-in_err-addresses_of.result c.from_residual-in_err-addresses_of.ensures.1

pub returns-in_err-make_transport-clause-failed : goal.returns-in_err-make_transport-clause-failed
returns-in_err-make_transport-clause-failed g c =
    memory_of c.args.settings.now.listen c.from_residual-in_err-make_transport.result c.from_residual-in_err-make_transport.ensures.1
