use Rattle.mon_station_commands.specs.Telling.{restart_lines}
use Rattle.mon_station_commands.proofs.Notes.{noted_more}
use Rattle.mon_station_commands.proofs.telling.tell_restarts.Goals as goal

pub loop-target-preserved : goal.loop-target-preserved
loop-target-preserved g c =
    noted_more (restart_lines c.args.round) c.args.targets.now c.loop-target.target-index _ (g.H.Host.log c.args.host.now) (g.H.Host.log c.loop-target.host)
    (g.H.Host.log c.tell_restart.new.host) c.loop-target-test.true c.loop-target.invariant c.tell_restart.ensures
