use Rattle.mon_host.specs.declared.level.Level.{Level}
use Rattle.std.proofs.Common.{◌∙◌, List, ℕ, ap, map, subst}
use Rattle.std.specs.Prelude.{Ok, Result, Some}
use Rattle.std.specs.declared.alloc.AllocError.{AllocError}
use Rattle.mon_alarms.specs.Announcing.{announced_of}
use Rattle.mon_alarms.specs.declared.change.AlarmChange.{AlarmChange}
use Rattle.mon_board.specs.declared.board.Board.{Board}
use Rattle.mon_host.specs.Log.{GoesOnBy}
use Rattle.mon_rounds.specs.Totals.{changes_since}
use Rattle.mon_station.specs.State.{state_of}
use Rattle.mon_station_commands.specs.Notifying.{Chain, IfCarried, IsAlarmPut}
use Rattle.mon_station_commands.specs.Telling.{AreSaid, alarm_note, announced_notes}
use Rattle.mon_station_commands.proofs.Accounts.{alarmed, half_alarmed, unalarmed}
use Rattle.mon_station_commands.proofs.Notified.{alarms_fill, unfilled}
use Rattle.mon_station_commands.proofs.live.tell_alarm_changes.Goals as goal

pub returns-in_err-changes-clause-said : goal.returns-in_err-changes-clause-said
returns-in_err-changes-clause-said g c =
    let live = c.args.live.now in
    unalarmed (announced_notes live.reports.printing c.args.number (state_of live.station.life).board (map (λ w. w.items) live.course.windows.items) live.course.announcer c.args.looks)
    c.from_residual.result (g.H.Host.log c.args.host.now) c.from_residual.ensures.1

pub returns-in_err-tell_alarms-clause-said : goal.returns-in_err-tell_alarms-clause-said
returns-in_err-tell_alarms-clause-said g c =
    let live = c.args.live.now in
    let start = g.H.Host.log c.args.host.now in
    let end = g.H.Host.log c.tell_alarms.new.host in
    let printing = live.reports.printing in
    let seen = map (λ w. w.items) live.course.windows.items in
    let announcer = live.course.announcer in
    let board = (state_of live.station.life).board in
    let changes = c.as_slice-2.ensures.value ∙ (c.in_ok-changes.ensures.changes ∙ ap (λ (b : Board). announced_of c.args.looks (changes_since b seen) announcer) c.board-board.ensures) in
    let r = c.from_residual-in_err-tell_alarms in
    half_alarmed (announced_notes printing c.args.number board seen announcer c.args.looks) c.tell_alarms.result r.result start end r.ensures.1
    (subst (λ (lines : List (Level × List ℕ)). GoesOnBy (λ log. AreSaid lines log c.tell_alarms.result) start end) (λ i. map (alarm_note (Some c.args.number) printing (c.board-board.ensures i)) (changes i)) c.tell_alarms.ensures)

pub returns-in_err-put-clause-said : goal.returns-in_err-put-clause-said
returns-in_err-put-clause-said g c =
    let live = c.args.live.now in
    let start = g.H.Host.log c.args.host.now in
    let end = g.H.Host.log c.tell_alarms.new.host in
    let printing = live.reports.printing in
    let seen = map (λ w. w.items) live.course.windows.items in
    let announcer = live.course.announcer in
    let board = (state_of live.station.life).board in
    let changes = c.as_slice-2.ensures.value ∙ (c.in_ok-changes.ensures.changes ∙ ap (λ (b : Board). announced_of c.args.looks (changes_since b seen) announcer) c.board-board.ensures) in
    let r = c.from_residual-in_err-put in
    let told : Result Unit AllocError = Ok c.in_ok-tell_alarms.field-0 in
    half_alarmed (announced_notes printing c.args.number board seen announcer c.args.looks) told r.result start end r.ensures.1
    (subst (λ (lines : List (Level × List ℕ)). GoesOnBy (λ log. AreSaid lines log told) start end) (λ i. map (alarm_note (Some c.args.number) printing (c.board-board.ensures i)) (changes i)) c.in_ok-tell_alarms.ensures)

pub returns-clause-notified : goal.returns-clause-notified
returns-clause-notified g c =
    let live = c.args.live.now in
    let seen = map (λ w. w.items) live.course.windows.items in
    let announcer = live.course.announcer in
    let at = c.seen_at.result in
    let printing = live.reports.printing in
    let before = live.courier in
    let after = c.notify_alarms-put.new.courier in
    let changes = c.as_slice.ensures.value ∙ (c.in_ok-changes.ensures.changes ∙ ap (λ (b : Board). announced_of c.args.looks (changes_since b seen) announcer) c.board-board.ensures) in (
      at,
      c.seen_at.ensures,
      subst (λ (b : Board). IfCarried (Chain (IsAlarmPut printing b at) (announced_of c.args.looks (changes_since (state_of live.station.life).board seen) announcer)) before after) c.board-board.ensures
          (subst (λ (cs : List AlarmChange). IfCarried (Chain (IsAlarmPut printing c.board-board.result.now at) cs) before after) changes c.in_ok-put.ensures.all),
    )

pub returns-clause-said : goal.returns-clause-said
returns-clause-said g c =
    let live = c.args.live.now in
    let start = g.H.Host.log c.args.host.now in
    let end = g.H.Host.log c.tell_alarms.new.host in
    let printing = live.reports.printing in
    let seen = map (λ w. w.items) live.course.windows.items in
    let announcer = live.course.announcer in
    let board = (state_of live.station.life).board in
    let changes = c.as_slice-2.ensures.value ∙ (c.in_ok-changes.ensures.changes ∙ ap (λ (b : Board). announced_of c.args.looks (changes_since b seen) announcer) c.board-board.ensures) in
    alarmed (announced_notes printing c.args.number board seen announcer c.args.looks) c.in_ok-tell_alarms.field-0 start end
    (subst (λ (lines : List (Level × List ℕ)). GoesOnBy (λ log. AreSaid lines log (let r : Result Unit AllocError = Ok c.in_ok-tell_alarms.field-0 in r)) start end)
    (λ i. map (alarm_note (Some c.args.number) printing (c.board-board.ensures i)) (changes i)) c.in_ok-tell_alarms.ensures)

pub returns-in_err-changes-clause-texts : goal.returns-in_err-changes-clause-texts
returns-in_err-changes-clause-texts g c =
    unfilled c.args.live.now.courier

pub returns-in_err-tell_alarms-clause-texts : goal.returns-in_err-tell_alarms-clause-texts
returns-in_err-tell_alarms-clause-texts g c =
    alarms_fill c.args.live.now.reports.printing c.board-board.result.now c.seen_at.result c.as_slice.result.now c.args.live.now.courier c.notify_alarms-put.new.courier
    c.notify_alarms-put.ensures.each

pub returns-in_err-put-clause-texts : goal.returns-in_err-put-clause-texts
returns-in_err-put-clause-texts g c =
    alarms_fill c.args.live.now.reports.printing c.board-board.result.now c.seen_at.result c.as_slice.result.now c.args.live.now.courier c.notify_alarms-put.new.courier
    c.notify_alarms-put.ensures.each

pub returns-clause-texts : goal.returns-clause-texts
returns-clause-texts g c =
    alarms_fill c.args.live.now.reports.printing c.board-board.result.now c.seen_at.result c.as_slice.result.now c.args.live.now.courier c.notify_alarms-put.new.courier
    c.notify_alarms-put.ensures.each
