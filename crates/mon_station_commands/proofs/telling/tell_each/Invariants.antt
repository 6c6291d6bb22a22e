use Rattle.std.proofs.Common.{take}
use Rattle.std.specs.List.{flat_map}
use Rattle.mon_host.specs.Log.{GoesOnBy}
use Rattle.mon_file_commands.specs.Line.{AreNoted}
use Rattle.mon_station_commands.specs.Telling.{notice_lines}
use Rattle.mon_station_commands.proofs.telling.tell_each.Given as goal

-- the lines of the notices so far were sent
abbrev pub invariant-loop-notice : goal.invariant-loop-notice
invariant-loop-notice g l =
    GoesOnBy (AreNoted (flat_map (notice_lines l.fn.round) (take l.notice-index l.notices))) (g.H.Host.log l.fn.host) (g.H.Host.log l.host)
