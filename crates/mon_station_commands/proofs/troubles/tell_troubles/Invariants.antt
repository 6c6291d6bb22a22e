use Rattle.std.proofs.Common.{map}
use Rattle.mon_host.specs.Log.{GoesOnBy}
use Rattle.mon_file_commands.specs.Line.{AreNoted}
use Rattle.mon_station_commands.specs.Troubles.{key_in, lines_before}
use Rattle.mon_station_commands.proofs.troubles.tell_troubles.Given as goal

-- the lines of the changes so far were sent
abbrev pub invariant-loop-place : goal.invariant-loop-place
invariant-loop-place g l = GoesOnBy (AreNoted (lines_before l.fn.facts l.fn.round (map key_in l.keys.items) l.place))
    (g.H.Host.log l.fn.host) (g.H.Host.log l.host)
