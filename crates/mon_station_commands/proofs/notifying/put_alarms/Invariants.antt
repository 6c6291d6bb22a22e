use Rattle.std.proofs.Common.{take}
use Rattle.std.specs.Prelude.{OnOk}
use Rattle.mon_station_commands.specs.Notifying.{Chain, IsAlarmPut, OrLost}
use Rattle.mon_station_commands.proofs.notifying.put_alarms.Given as goal

-- of the changes so far all were put, if that is said; each was put or is counted
abbrev pub invariant-loop-place : goal.invariant-loop-place
invariant-loop-place l =
    OnOk l.done (Chain (IsAlarmPut l.look.printing.now l.look.board.now l.look.seen) (take l.place l.changes) l.fn.courier l.courier)
    × Chain (OrLost (IsAlarmPut l.look.printing.now l.look.board.now l.look.seen)) (take l.place l.changes) l.fn.courier l.courier
