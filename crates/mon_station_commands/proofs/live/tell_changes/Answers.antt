use Rattle.mon_host.specs.declared.level.Level.{Level}
use Rattle.std.proofs.Common.{List, ℕ, map, subst}
use Rattle.mon_host.specs.Log.{GoesOnBy}
use Rattle.mon_station.specs.State.{state_of}
use Rattle.mon_station_commands.specs.Spans.{AreAlarms, is_round}
use Rattle.mon_station_commands.specs.Telling.{announced_notes}
use Rattle.mon_station_commands.proofs.Accounts.{changes_are, no_changes}
use Rattle.mon_station_commands.proofs.Steps.{failure_is}
use Rattle.mon_station_commands.proofs.Notified.{filled_more}
use Rattle.mon_station_commands.proofs.live.tell_changes.Goals as goal

pub returns-in_err-tell_troubles-clause-said : goal.returns-in_err-tell_troubles-clause-said
returns-in_err-tell_troubles-clause-said g c =
    let live = c.args.live.now in
    let failure = c.in_err-tell_troubles.field-0.0 in
    let r = c.from_residual.result in
    no_changes (announced_notes live.reports.printing c.args.number (state_of live.station.life).board (map (λ w. w.items) live.course.windows.items) live.course.announcer) c.args.number (is_round c.args.span) failure r (g.H.Host.log c.args.host.now)
    (g.H.Host.log c.tell_troubles.new.host) (failure_is r failure c.from_residual.ensures.1) c.in_err-tell_troubles.ensures.said

pub returns-clause-said : goal.returns-clause-said
returns-clause-said g c =
    let live = c.args.live.now in
    let start = g.H.Host.log c.args.host.now in
    let told = g.H.Host.log c.tell_troubles.new.host in
    let end = g.H.Host.log c.tell_alarm_changes.new.host in
    let is = c.tell_troubles.ensures in
    changes_are (announced_notes live.reports.printing c.args.number (state_of live.station.life).board (map (λ w. w.items) live.course.windows.items) live.course.announcer) c.args.number (is_round c.args.span) c.in_ok-tell_troubles.field-0 c.tell_alarm_changes.result start told end c.in_ok-tell_troubles.ensures.said
    (subst (λ (lines : List (Level × List ℕ)). GoesOnBy (λ log. AreAlarms lines log c.tell_alarm_changes.result) told end)
    (λ i. announced_notes (is.printing i) c.args.number (state_of (is.station i).life).board (map (λ w. w.items) (is.course i).windows.items) (is.course i).announcer (c.is_round.ensures i)) c.tell_alarm_changes.ensures.said)

pub returns-in_err-tell_troubles-clause-texts : goal.returns-in_err-tell_troubles-clause-texts
returns-in_err-tell_troubles-clause-texts g c =
    c.tell_troubles.ensures.texts

pub returns-clause-texts : goal.returns-clause-texts
returns-clause-texts g c =
    filled_more c.args.live.now.courier c.tell_troubles.new.live.courier c.tell_alarm_changes.new.live.courier c.tell_troubles.ensures.texts c.tell_alarm_changes.ensures.texts
