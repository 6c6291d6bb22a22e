use Rattle.mon_station_commands.proofs.Notified.{turn_quiet}
use Rattle.mon_station_commands.proofs.notifying.deliver.Goals as goal

pub returns-clause-quiet : goal.returns-clause-quiet
returns-clause-quiet g c =
    turn_quiet c.args.live.now.ended c.args.live.now.courier c.take_turn.new.courier (g.H.Host.log c.args.host.now) (g.H.Host.log c.take_turn.new.host) c.take_turn.ensures
