use Rattle.std.proofs.Common.{◌∙◌, map, refl, sym}
use Rattle.std.specs.Prelude.{Result}
use Rattle.mon_rounds.specs.declared.freshness.Spell.{Spell}
use Rattle.mon_station.specs.State.{state_of}
use Rattle.mon_station.specs.declared.fault.StationFault.{StationFault}
use Rattle.mon_station_commands.specs.Telling.{announced_notes}
use Rattle.mon_station_commands.specs.Spans.{IsOfSpan, is_round}
use Rattle.mon_station_commands.specs.declared.live.Kept.{Kept}
use Rattle.mon_station_commands.proofs.Accounts.{account_whole, span_is, span_of, span_shown, span_stops, timed_stopped}
use Rattle.mon_station_commands.proofs.Steps.{failure_is}
use Rattle.mon_station_commands.proofs.Notified.{filled_as, unfilled}
use Rattle.mon_station_commands.proofs.live.run_span.Goals as goal

pub returns-in_err-ran-clause-run : goal.returns-in_err-ran-clause-run
returns-in_err-ran-clause-run g c =
    let live = c.args.live.now in
    let after = c.run_timed.new.live in
    let round = after.transport.rounds.round in
    let failure = c.in_err-ran.field-0.0 in
    let start = g.H.Host.log c.args.host.now in
    let end = g.H.Host.log c.run_timed.new.host in
    let r = c.from_residual.result in
    span_stops (IsOfSpan c.args.span live.transport.rounds.round.saves round.targets round.events after.run) (announced_notes live.reports.printing c.args.number (state_of after.station.life).board (map (λ w. w.items) live.course.windows.items) live.course.announcer) c.args.number (is_round c.args.span) live.kept after.kept failure r
    start end (failure_is r failure c.from_residual.ensures.1)
    (c.run_timed.ensures.kept ∙ (λ i. let k : Kept = record live.kept { round_at = c.in_err-ran.ensures.timed.holds.1 i } in k))
    (timed_stopped (Result Spell StationFault) (is_round c.args.span) live.kept.round_at after.kept.round_at failure start end c.in_err-ran.ensures.timed)

pub returns-clause-run : goal.returns-clause-run
returns-clause-run g c =
    let live = c.args.live.now in
    let ran = c.run_timed.new.live in
    let told = c.report_run-told.new.live in
    let end = c.show_span.new.live in
    let start = g.H.Host.log c.args.host.now in
    let timed = g.H.Host.log c.run_timed.new.host in
    let reported = g.H.Host.log c.report_run-told.new.host in
    let said = g.H.Host.log c.said.new.host in
    let round = ran.transport.rounds.round in
    let last = end.transport.rounds.round in
    let kept = sym (c.show_span.ensures.station ∙ c.report_run-told.ensures.station) in
    let same = c.show_span.ensures.round ∙ c.report_run-told.ensures.round in
    span_of (IsOfSpan c.args.span live.transport.rounds.round.saves) round.targets last.targets round.events last.events ran.run end.run (announced_notes live.reports.printing c.args.number (state_of end.station.life).board (map (λ w. w.items) live.course.windows.items) live.course.announcer) c.args.number (is_round c.args.span)
    live.kept end.kept start said (λ i. (same i).targets) (λ i. (same i).events) (c.show_span.ensures.ran ∙ c.report_run-told.ensures.ran)
    (span_shown (IsOfSpan c.args.span live.transport.rounds.round.saves round.targets round.events ran.run) (announced_notes ran.reports.printing c.args.number (state_of ran.station.life).board (map (λ w. w.items) ran.course.windows.items) ran.course.announcer) (announced_notes live.reports.printing c.args.number (state_of end.station.life).board (map (λ w. w.items) live.course.windows.items) live.course.announcer) c.args.number (is_round c.args.span)
    live.kept end.kept start said (λ i. announced_notes (c.run_timed.ensures.printing i) c.args.number (state_of (kept i).life).board (map (λ w. w.items) (c.run_timed.ensures.course i).windows.items) (c.run_timed.ensures.course i).announcer)
    (span_is (IsOfSpan c.args.span live.transport.rounds.round.saves round.targets round.events ran.run) (announced_notes ran.reports.printing c.args.number (state_of ran.station.life).board (map (λ w. w.items) ran.course.windows.items) ran.course.announcer) c.args.number c.args.span c.in_ok-ran.ran live.kept ran.kept
    told.kept end.kept c.report_run-told.result c.said.result start timed reported said c.in_ok-ran.ensures.span c.in_ok-ran.ensures.fault
    c.run_timed.ensures.kept c.report_run-told.ensures.kept c.show_span.ensures.kept c.in_ok-ran.ensures.timed
    (account_whole c.args.span live.transport.rounds.round round _ _ ran.run _ c.args.number c.in_ok-ran.ran _ _ c.report_run-told.result timed reported c.in_ok-ran.ensures.ran c.report_run-told.ensures.account) c.said.ensures))

pub returns-in_err-ran-clause-texts : goal.returns-in_err-ran-clause-texts
returns-in_err-ran-clause-texts g c =
    filled_as c.args.live.now.courier c.args.live.now.courier c.args.live.now.courier c.run_timed.new.live.courier refl c.run_timed.ensures.courier (unfilled c.args.live.now.courier)

pub returns-clause-texts : goal.returns-clause-texts
returns-clause-texts g c =
    filled_as c.args.live.now.courier c.run_timed.new.live.courier c.report_run-told.new.live.courier c.show_span.new.live.courier c.run_timed.ensures.courier c.show_span.ensures.courier c.report_run-told.ensures.texts
