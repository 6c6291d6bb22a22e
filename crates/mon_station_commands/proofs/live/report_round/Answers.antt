use Rattle.mon_host.specs.declared.level.Level.{Level}
use Rattle.std.proofs.Common.{◌∙◌, Bool, List, ℕ, map, subst}
use Rattle.std.specs.List.{flat_map}
use Rattle.mon_host.specs.Log.{GoesOnBy}
use Rattle.mon_rounds.specs.Noted.{notices_of}
use Rattle.mon_station.specs.State.{state_of}
use Rattle.mon_station_commands.specs.Spans.{AreChanges, IsOfRun, is_round}
use Rattle.mon_station_commands.specs.Telling.{announced_notes, restart_lines, round_lines}
use Rattle.mon_station_commands.proofs.Accounts.{reported, unreported}
use Rattle.mon_station_commands.proofs.Notes.{noted_on}
use Rattle.mon_station_commands.proofs.Notified.{unfilled}
use Rattle.mon_station_commands.proofs.live.report_round.Goals as goal

pub returns-in_err-report-clause-account : goal.returns-in_err-report-clause-account
returns-in_err-report-clause-account g c =
    let live = c.args.live.now in
    let round = live.transport.rounds.round in
    unreported (IsOfRun round.targets round.events live.run) (announced_notes live.reports.printing c.args.number (state_of live.station.life).board (map (λ w. w.items) live.course.windows.items) live.course.announcer) c.args.number (is_round c.args.spell.span) live.kept.unsaved live.kept.unsaved
    c.from_residual.result (g.H.Host.log c.args.host.now) c.from_residual.ensures.1 (λ i. live.kept.unsaved)

pub returns-clause-account : goal.returns-clause-account
returns-clause-account g c =
    let live = c.args.live.now in
    let round = live.transport.rounds.round in
    let is = c.in_ok-report.ensures in
    let start = g.H.Host.log c.args.host.now in
    let told = g.H.Host.log c.tell_restarts.new.host in
    reported (IsOfRun round.targets round.events live.run) (announced_notes live.reports.printing c.args.number (state_of live.station.life).board (map (λ w. w.items) live.course.windows.items) live.course.announcer) c.args.number c.in_ok-report.report c.targets.result.now (is_round c.args.spell.span)
    live.kept.unsaved c.unsaved_after-live.result c.tell_changes.new.live.kept.unsaved c.tell_changes.result start told
    (g.H.Host.log c.tell_changes.new.host)
    record { noticed = is.notices ∙ (λ i. notices_of (c.round.ensures i).targets (c.round.ensures i).events live.run.answers.items); sources = is.source; sends = is.sends }
    (λ i. (c.tell_changes.ensures.kept i).unsaved)
    (noted_on (round_lines c.args.number c.in_ok-report.report) (flat_map (restart_lines c.args.number) c.targets.result.now) start (g.H.Host.log c.tell_notices.new.host) told c.tell_notices.ensures c.tell_restarts.ensures)
    c.unsaved_after-live.ensures
    (subst (λ (lines : Bool → List (Level × List ℕ)). GoesOnBy (λ log. AreChanges lines c.args.number (is_round c.args.spell.span) log c.tell_changes.result) told
    (g.H.Host.log c.tell_changes.new.host)) (λ i. announced_notes live.reports.printing c.args.number (state_of live.station.life).board (map (λ w. w.items) (c.add.ensures.windows i).items) (c.add.ensures.announcer i))
    c.tell_changes.ensures.said)

pub returns-in_err-report-clause-texts : goal.returns-in_err-report-clause-texts
returns-in_err-report-clause-texts g c =
    unfilled c.args.live.now.courier

pub returns-clause-texts : goal.returns-clause-texts
returns-clause-texts g c =
    c.tell_changes.ensures.texts
