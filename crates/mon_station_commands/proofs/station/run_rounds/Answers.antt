use Rattle.std.proofs.Common.{refl}
use Rattle.std.specs.Prelude.{Err, Ok}
use Rattle.mon_station.specs.State.{state_of}
use Rattle.mon_station_commands.specs.Rounds.{Moment}
use Rattle.mon_station_commands.proofs.Rounding.{finished, not_finished, run_is, unfinished}
use Rattle.mon_station_commands.proofs.Steps.{failure_is}
use Rattle.mon_station_commands.proofs.station.run_rounds.Goals as goal

pub returns-in_err-run_all : goal.returns-in_err-run_all
returns-in_err-run_all g c =
    let printing = c.args.live.now.reports.printing in
    let paths = c.args.live.now.reports.paths in
    let first = c.args.live.now.kept in
    let start = g.H.Host.log c.args.host.now in
    let ran = g.H.Host.log c.run_all.new.host in
    let k = c.run_all.new.live.kept in
    let moment : Moment = record { state = state_of c.run_all.new.live.station.life; course = c.run_all.new.live.course; fresh = c.run_all.new.live.freshness; peers = c.run_all.new.live.transport.peers.items; engines = c.run_all.new.live.transport.engines.items; now = c.run_all.new.live.ended; round_at = c.run_all.new.live.kept.round_at; reports = c.run_all.new.live.reports } in
    let failure = c.in_err-run_all.field-0.0 in
    run_is c.args.words printing paths first k moment (Err failure) c.from_residual.result start ran ran c.run_all.ensures.printing refl c.in_err-run_all.ensures.run
    (not_finished moment k failure c.from_residual.result ran (failure_is c.from_residual.result failure c.from_residual.ensures.1))

pub returns-in_err-print_last : goal.returns-in_err-print_last
returns-in_err-print_last g c =
    let printing = c.args.live.now.reports.printing in
    let paths = c.args.live.now.reports.paths in
    let first = c.args.live.now.kept in
    let start = g.H.Host.log c.args.host.now in
    let ran = g.H.Host.log c.run_all.new.host in
    let k = c.run_all.new.live.kept in
    let moment : Moment = record { state = state_of c.run_all.new.live.station.life; course = c.run_all.new.live.course; fresh = c.run_all.new.live.freshness; peers = c.run_all.new.live.transport.peers.items; engines = c.run_all.new.live.transport.engines.items; now = c.run_all.new.live.ended; round_at = c.run_all.new.live.kept.round_at; reports = c.run_all.new.live.reports } in
    let end = g.H.Host.log c.print_last.new.host in
    let failure = c.in_err-print_last.field-0.0 in
    let r = c.from_residual-in_err-print_last in
    run_is c.args.words printing paths first k moment (Ok c.in_ok-run_all.field-0) r.result start ran end c.run_all.ensures.printing refl c.in_ok-run_all.ensures.run
    (unfinished moment k failure r.result ran end (failure_is r.result failure r.ensures.1) c.in_err-print_last.ensures.report)

pub returns : goal.returns
returns g c =
    let printing = c.args.live.now.reports.printing in
    let paths = c.args.live.now.reports.paths in
    let first = c.args.live.now.kept in
    let start = g.H.Host.log c.args.host.now in
    let ran = g.H.Host.log c.run_all.new.host in
    let k = c.run_all.new.live.kept in
    let moment : Moment = record { state = state_of c.run_all.new.live.station.life; course = c.run_all.new.live.course; fresh = c.run_all.new.live.freshness; peers = c.run_all.new.live.transport.peers.items; engines = c.run_all.new.live.transport.engines.items; now = c.run_all.new.live.ended; round_at = c.run_all.new.live.kept.round_at; reports = c.run_all.new.live.reports } in
    let end = g.H.Host.log c.print_last.new.host in
    run_is c.args.words printing paths first k moment (Ok c.in_ok-run_all.field-0) c.ended.result start ran end c.run_all.ensures.printing refl c.in_ok-run_all.ensures.run
    (finished moment c.print_last.new.live.kept k c.in_ok-print_last.field-0 c.ended.result ran end c.print_last.ensures.kept
    c.in_ok-print_last.ensures.report c.ended.ensures.reports)
