use Rattle.std.proofs.Common.{◌∙◌, Bool, option_map, string_bytes, subst, true, map}
use Rattle.mon_console.specs.declared.printing.Printing.{Printing}
use Rattle.mon_host.specs.Log.{GoesOnBy}
use Rattle.mon_station.specs.State.{state_of}
use Rattle.mon_station_commands.specs.Reporting.{IsOut}
use Rattle.mon_station_commands.specs.Rounds.{IsReportAt, Moment}
use Rattle.mon_station_commands.specs.Telling.{announced_notes}
use Rattle.mon_station_commands.specs.Spans.{IsOfRound, IsSpan}
use Rattle.mon_station_commands.specs.declared.live.Kept.{Kept}
use Rattle.mon_station_commands.specs.declared.live.Paths.{Paths}
use Rattle.mon_station_commands.proofs.Accounts.{span_stopped}
use Rattle.mon_station_commands.proofs.Keepings.{look_quiet}
use Rattle.mon_station_commands.proofs.Quiets.{stopped_on}
use Rattle.mon_station_commands.proofs.Rounding.{round_fails, round_is}
use Rattle.mon_station_commands.proofs.Steps.{failure_is}
use Rattle.mon_station_commands.proofs.station.run_round.Goals as goal

pub returns-clause-run : goal.returns-clause-run
returns-clause-run g c =
    let live = c.args.live.now in
    let looked = c.keep_file.new.live in
    let look = c.keep_file.ensures in
    let after = c.run_span.new.live in
    let round = after.transport.rounds.round in
    let moment : Moment = record { state = state_of after.station.life; course = after.course; fresh = after.freshness; peers = after.transport.peers.items; engines = after.transport.engines.items; now = after.ended; round_at = after.kept.round_at; reports = after.reports } in
    let found = g.H.Host.log c.keep_file.new.host in
    let ran = g.H.Host.log c.run_span.new.host in
    let end = g.H.Host.log c.write_out.new.host in
    let last = c.write_out.new.live.kept in
    let seen = map (λ w. w.items) looked.course.windows.items in
    let board = (state_of after.station.life).board in
    let Span : Bool → Printing → Kept → Type 0 = λ saves p k. GoesOnBy (λ log. IsSpan (IsOfRound saves round.targets round.events after.run) (announced_notes p c.args.number board seen looked.course.announcer) c.args.number true k after.kept log) found ran in
    let span : Span c.args.saves live.reports.printing (let k : Kept = record live.kept { strayed = looked.kept.strayed } in k) =
    subst (Span c.args.saves live.reports.printing) look.kept
    (subst (λ (p : Printing). Span c.args.saves p looked.kept) (λ i. (look.reports i).printing)
    (subst (λ (b : Bool). Span b looked.reports.printing looked.kept) (λ i. (c.set_saves.ensures.round i).saves) c.in_ok-run_span.ensures.run)) in
    round_is c.args.number c.args.saves live.reports.printing live.reports.paths round.targets round.events after.run live.kept after.kept last
    moment seen looked.course.announcer looked.kept.strayed (g.H.Host.log c.args.host.now) found ran end (c.run_span.ensures.printing ∙ (λ i. (look.reports i).printing)) (λ i. after.kept.round_at)
    c.write_out.ensures.kept look.looked span
    (subst (λ (o : Paths). GoesOnBy (λ log. IsOut c.args.number (option_map string_bytes o.out) (IsReportAt moment) after.kept.unwritten log last.unwritten) ran end) (c.run_span.ensures.paths ∙ (λ i. (look.reports i).paths)) c.write_out.ensures.written)

pub returns-in_err-run_span-clause-run : goal.returns-in_err-run_span-clause-run
returns-in_err-run_span-clause-run g c =
    let live = c.args.live.now in
    let looked = c.keep_file.new.live in
    let after = c.run_span.new.live in
    let round = after.transport.rounds.round in
    let start = g.H.Host.log c.args.host.now in
    let found = g.H.Host.log c.keep_file.new.host in
    let ran = g.H.Host.log c.run_span.new.host in
    let failure = c.in_err-run_span.field-0.0 in
    let r = c.from_residual.result in
    round_fails c.args.number c.args.saves live.reports.printing live.reports.paths live.kept after.kept failure r start ran
    (failure_is r failure c.from_residual.ensures.1)
    (stopped_on failure start found ran (look_quiet c.args.number (string_bytes live.reports.paths.file) live.kept.strayed looked.kept.strayed start found c.keep_file.ensures.looked)
    (span_stopped (IsOfRound c.set_saves.new.self.round.saves round.targets round.events after.run) (announced_notes looked.reports.printing c.args.number (state_of after.station.life).board (map (λ w. w.items) looked.course.windows.items) looked.course.announcer) c.args.number true looked.kept after.kept failure found ran
    c.in_err-run_span.ensures.run))
