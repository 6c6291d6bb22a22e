use Rattle.std.proofs.Common.{List, length, subst, sym}
use Rattle.std.specs.Prelude.{Ok, Result}
use Rattle.mon_console.specs.declared.failure.Failure.{Failure}
use Rattle.mon_host.specs.Log.{GoesOnBy}
use Rattle.mon_rounds.specs.Changes.{changes_between, others_of, told_by, troubles_after}
use Rattle.mon_rounds.specs.declared.changes.Change.{Change}
use Rattle.mon_rounds.specs.declared.round.Span.{Span}
use Rattle.mon_station_commands.specs.Spans.{AreTroubles, is_round}
use Rattle.mon_station_commands.proofs.Accounts.{no_troubles, troubles}
use Rattle.mon_station_commands.proofs.Notified.{unfilled}
use Rattle.mon_station_commands.proofs.live.tell_troubles.Goals as goal

pub returns-in-Round-clause-said : goal.returns-in-Round-clause-said
returns-in-Round-clause-said g c =
    let live = c.args.live.now in
    let changes : List Change = changes_between (told_by live.troubles) (troubles_after live.reports.stale_after (told_by live.troubles) (others_of live.transport.rounds.latest.datagrams.items live.freshness.targets.items live.transport.engines.items (length live.freshness.targets.items)) live.freshness) in
    let start = g.H.Host.log c.args.host.now in
    let end = g.H.Host.log c.report_troubles.new.host in
    subst (λ (s : Span). GoesOnBy (λ log. AreTroubles (is_round s) c.args.number log c.report_troubles.result) start end) (sym c.in-Round.is)
    (troubles live.freshness c.args.number changes c.report_troubles.result start end c.report_troubles.ensures.said)

pub returns-in-Between-clause-said : goal.returns-in-Between-clause-said
returns-in-Between-clause-said g c =
    let start = g.H.Host.log c.args.host.now in
    subst (λ (s : Span). GoesOnBy (λ log. AreTroubles (is_round s) c.args.number log (let r : Result Unit Failure = Ok tt in r)) start start) (sym c.in-Between.is)
    (no_troubles c.args.number start)

pub returns-in-Between-clause-texts : goal.returns-in-Between-clause-texts
returns-in-Between-clause-texts g c =
    unfilled c.args.live.now.courier

pub returns-in-Round-clause-texts : goal.returns-in-Round-clause-texts
returns-in-Round-clause-texts g c =
    c.report_troubles.ensures.texts
