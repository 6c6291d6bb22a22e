use Rattle.mon_station.specs.State.{state_of}
use Rattle.mon_station_commands.specs.Rounds.{moment_of}
use Rattle.mon_station_commands.proofs.Rounding.{last_report}
use Rattle.mon_station_commands.proofs.printing.print_last.Goals as goal

pub returns-clause-report : goal.returns-clause-report
returns-clause-report g c =
    let live = c.args.live.now in
    let moment = moment_of (state_of live.station.life) live.course live.freshness live.transport.peers.items live.transport.engines.items live.ended live.kept.round_at live.reports in
    last_report moment c.fit_output.new.self c.print_report.result (g.H.Host.log c.args.host.now) (g.H.Host.log c.fit_output.new.host) (g.H.Host.log c.print_report.new.host)
    c.fit_output.ensures c.print_report.ensures.report
