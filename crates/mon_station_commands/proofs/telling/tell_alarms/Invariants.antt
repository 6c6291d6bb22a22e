use Rattle.std.proofs.Common.{◌≡◌, map, take}
use Rattle.mon_host.specs.Log.{GoesOnBy}
use Rattle.mon_file_commands.specs.Line.{noted}
use Rattle.mon_station_commands.specs.Telling.{alarm_note}
use Rattle.mon_station_commands.proofs.telling.tell_alarms.Given as goal

-- the lines of the alarms so far were sent
abbrev pub invariant-loop-change : goal.invariant-loop-change
invariant-loop-change g l =
    GoesOnBy (λ log. log ≡ map noted (take l.change-index (map (alarm_note l.fn.alarms.round l.fn.alarms.printing.now l.fn.alarms.board.now) l.changes)))
    (g.H.Host.log l.fn.host) (g.H.Host.log l.host)
