use Rattle.std.proofs.Common.{take}
use Rattle.std.specs.List.{flat_map}
use Rattle.mon_host.specs.Log.{GoesOnBy}
use Rattle.mon_file_commands.specs.Line.{AreNoted}
use Rattle.mon_station_commands.specs.Telling.{restart_lines}
use Rattle.mon_station_commands.proofs.telling.tell_restarts.Given as goal

-- the lines of the targets so far were sent
abbrev pub invariant-loop-target : goal.invariant-loop-target
invariant-loop-target g l =
    GoesOnBy (AreNoted (flat_map (restart_lines l.fn.round) (take l.target-index l.targets))) (g.H.Host.log l.fn.host) (g.H.Host.log l.host)
