use Rattle.std.proofs.Common.{◌∙◌, false, map, refl}
use Rattle.std.specs.Prelude.{Ok, Err}
use Rattle.mon_station.specs.State.{state_of}
use Rattle.mon_station_commands.specs.Telling.{announced_notes}
use Rattle.mon_station_commands.specs.Spans.{IsOfRun}
use Rattle.mon_station_commands.proofs.Accounts.{between_kept, span_quiet}
use Rattle.mon_station_commands.proofs.Quiets.{no_wait, quiet_on, still, stopped_on, time, untimed}
use Rattle.mon_station_commands.proofs.Steps.{failure_is}
use Rattle.mon_station_commands.proofs.Notified.{served_next, unserved}
use Rattle.mon_station_commands.proofs.pace.pause.Goals as goal

pub loop-init : goal.loop-init
loop-init g c = (still (g.H.Host.log c.args.host.now), refl, refl, refl, unserved c.args.live.now.ended c.args.live.now.courier)

pub loop-preserved : goal.loop-preserved
loop-preserved g c =
    let start = g.H.Host.log c.args.host.now in
    let before = g.H.Host.log c.loop.host in
    let timed = g.H.Host.log c.now.new.host in
    let end = g.H.Host.log c.run_span.new.host in
    let after = c.run_span.new.live in
    let round = after.transport.rounds.round in
    let shown = announced_notes c.loop.live.reports.printing c.args.number (state_of after.station.life).board (map (λ w. w.items) c.loop.live.course.windows.items) c.loop.live.course.announcer in
    let done = g.H.Host.log c.deliver.new.host in
    let inv = c.loop.invariant in (
      quiet_on start end done (quiet_on start timed end (quiet_on start before timed inv.0 (time before timed _ c.in_ok-now.ensures))
          (span_quiet (IsOfRun round.targets round.events after.run) shown c.args.number false c.loop.live.kept after.kept (Ok c.in_ok-run_span.field-0) timed end
          c.in_ok-run_span.ensures.run)) c.deliver.ensures.quiet,
      c.deliver.ensures.printing ∙ (c.run_span.ensures.printing ∙ inv.1),
      c.deliver.ensures.paths ∙ (c.run_span.ensures.paths ∙ inv.2),
      c.deliver.ensures.kept ∙ (between_kept (IsOfRun round.targets round.events after.run) shown c.args.number c.loop.live.kept after.kept c.run_span.result timed end c.run_span.ensures.run ∙ inv.3),
      served_next c.args.live.now.ended c.loop.live.ended after.ended c.deliver.new.live.ended c.args.live.now.courier c.loop.live.courier after.courier c.deliver.new.live.courier end done
          inv.4 c.run_span.ensures.texts c.deliver.ensures.turn c.deliver.ensures.ended,
    )

pub returns-in_err-now-clause-quiet : goal.returns-in_err-now-clause-quiet
returns-in_err-now-clause-quiet g c =
    let start = g.H.Host.log c.args.host.now in
    let before = g.H.Host.log c.loop.host in
    let timed = g.H.Host.log c.now.new.host in
    let failure = c.in_err-now.field-0.0 in
    let r = c.from_residual.result in
    no_wait failure r start timed (failure_is r failure c.from_residual.ensures.1)
    (stopped_on failure start before timed c.loop.invariant.0 (untimed failure before timed c.in_err-now.ensures))

pub returns-in_err-now-clause-printing : goal.returns-in_err-now-clause-printing
returns-in_err-now-clause-printing g c = c.loop.invariant.1

pub returns-in_err-now-clause-paths : goal.returns-in_err-now-clause-paths
returns-in_err-now-clause-paths g c = c.loop.invariant.2

pub returns-then-left-eq0-clause-quiet : goal.returns-then-left-eq0-clause-quiet
returns-then-left-eq0-clause-quiet g c =
    let start = g.H.Host.log c.args.host.now in
    let before = g.H.Host.log c.loop.host in
    let timed = g.H.Host.log c.now.new.host in
    quiet_on start before timed c.loop.invariant.0 (time before timed _ c.in_ok-now.ensures)

pub returns-then-left-eq0-clause-printing : goal.returns-then-left-eq0-clause-printing
returns-then-left-eq0-clause-printing g c = c.loop.invariant.1

pub returns-then-left-eq0-clause-paths : goal.returns-then-left-eq0-clause-paths
returns-then-left-eq0-clause-paths g c = c.loop.invariant.2

pub returns-in_err-run_span-clause-quiet : goal.returns-in_err-run_span-clause-quiet
returns-in_err-run_span-clause-quiet g c =
    let start = g.H.Host.log c.args.host.now in
    let before = g.H.Host.log c.loop.host in
    let timed = g.H.Host.log c.now.new.host in
    let end = g.H.Host.log c.run_span.new.host in
    let after = c.run_span.new.live in
    let round = after.transport.rounds.round in
    let shown = announced_notes c.loop.live.reports.printing c.args.number (state_of after.station.life).board (map (λ w. w.items) c.loop.live.course.windows.items) c.loop.live.course.announcer in
    let failure = c.in_err-run_span.field-0.0 in
    let r = c.from_residual-in_err-run_span.result in
    no_wait failure r start end (failure_is r failure c.from_residual-in_err-run_span.ensures.1)
    (stopped_on failure start timed end (quiet_on start before timed c.loop.invariant.0 (time before timed _ c.in_ok-now.ensures))
    (span_quiet (IsOfRun round.targets round.events after.run) shown c.args.number false c.loop.live.kept after.kept (Err failure) timed end c.in_err-run_span.ensures.run))

pub returns-in_err-run_span-clause-printing : goal.returns-in_err-run_span-clause-printing
returns-in_err-run_span-clause-printing g c = c.run_span.ensures.printing ∙ c.loop.invariant.1

pub returns-in_err-run_span-clause-paths : goal.returns-in_err-run_span-clause-paths
returns-in_err-run_span-clause-paths g c = c.run_span.ensures.paths ∙ c.loop.invariant.2

pub returns-clause-quiet : goal.returns-clause-quiet
returns-clause-quiet g c = c.loop.invariant.0

pub returns-clause-printing : goal.returns-clause-printing
returns-clause-printing g c = c.loop.invariant.1

pub returns-clause-paths : goal.returns-clause-paths
returns-clause-paths g c = c.loop.invariant.2

pub returns-in_err-now-clause-kept : goal.returns-in_err-now-clause-kept
returns-in_err-now-clause-kept g c = c.loop.invariant.3

pub returns-then-left-eq0-clause-kept : goal.returns-then-left-eq0-clause-kept
returns-then-left-eq0-clause-kept g c = c.loop.invariant.3

pub returns-in_err-run_span-clause-kept : goal.returns-in_err-run_span-clause-kept
returns-in_err-run_span-clause-kept g c =
    let after = c.run_span.new.live in
    let round = after.transport.rounds.round in
    between_kept (IsOfRun round.targets round.events after.run) (announced_notes c.loop.live.reports.printing c.args.number (state_of after.station.life).board (map (λ w. w.items) c.loop.live.course.windows.items) c.loop.live.course.announcer) c.args.number c.loop.live.kept after.kept c.run_span.result
    (g.H.Host.log c.now.new.host) (g.H.Host.log c.run_span.new.host) c.run_span.ensures.run ∙ c.loop.invariant.3

pub returns-clause-kept : goal.returns-clause-kept
returns-clause-kept g c = c.loop.invariant.3

pub returns-then-left-eq0-clause-served : goal.returns-then-left-eq0-clause-served
returns-then-left-eq0-clause-served g c =
    c.loop.invariant.4

pub returns-clause-served : goal.returns-clause-served
returns-clause-served g c =
    c.loop.invariant.4
