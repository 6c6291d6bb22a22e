use Rattle.std.proofs.Common.{◌∙◌}
use Rattle.mon_station_commands.specs.Telling.{alarm_note, line_in}
use Rattle.mon_station_commands.proofs.Notes.{line_more}
use Rattle.mon_station_commands.proofs.telling.tell_alarms.Goals as goal

pub loop-change-preserved : goal.loop-change-preserved
loop-change-preserved g c =
    line_more (alarm_note c.args.alarms.round c.args.alarms.printing.now c.args.alarms.board.now) c.args.changes.now c.loop-change.change-index _ _ _ (g.H.Host.log c.args.host.now)
    (g.H.Host.log c.loop-change.host) (g.H.Host.log c.tell_line.new.host) c.loop-change-test.true
    (λ i. (c.alarm_level.ensures i, line_in c.args.alarms.round ((c.deref.ensures ∙ c.in_ok-line.ensures) i))) c.loop-change.invariant c.tell_line.ensures
