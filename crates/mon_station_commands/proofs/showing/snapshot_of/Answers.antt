use Rattle.std.proofs.Common.{◌∙◌, subst, sym}
use Rattle.mon_alarms.specs.Announcing.{announced_states}
use Rattle.mon_formats.specs.declared.format.Format.{Format}
use Rattle.mon_formats.specs.declared.format.Format.TheVariants.{Html, Json, OpenMetrics, Prometheus}
use Rattle.mon_station.specs.State.{state_of}
use Rattle.mon_station_commands.specs.Showing.{AreTextsOf}
use Rattle.mon_station_commands.specs.Snapshot.{texts_of}
use Rattle.mon_station_commands.specs.declared.snapshot.Source.{Source}
use Rattle.mon_station_commands.proofs.Copies.{of_copy}
use Rattle.mon_station_commands.proofs.showing.snapshot_of.Goals as goal

-- each text is that of the entries, which are those of the board
pub returns : goal.returns
returns g c =
    let live = c.args.live.now in
    let text = λ (format : Format). of_copy format c.in_ok-figures.figures live.reports.printing c.in_ok-printing.printing (state_of live.station.life).board c.in_ok-board.board (announced_states live.course.announcer) c.in_ok-states.states.items
    c.in_ok-printing.ensures (c.in_ok-board.ensures.watch ∙ (λ i. (c.board.ensures i).watch)) (c.in_ok-board.ensures.windows ∙ (λ i. (c.board.ensures i).windows)) c.in_ok-states.ensures in
    subst (λ (s : Source). AreTextsOf (state_of live.station.life) live.course live.freshness live.transport.peers.items live.transport.engines.items live.ended live.kept.round_at live.reports (texts_of s))
    (sym c.new.ensures)
    record {
      figures = c.in_ok-figures.figures;
      holds = c.in_ok-figures.ensures.figures;
      metrics = text Prometheus;
      open_metrics = text OpenMetrics;
      report = text Json;
      page = text Html;
    }
