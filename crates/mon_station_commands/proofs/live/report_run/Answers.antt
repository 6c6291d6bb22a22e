use Rattle.std.proofs.Common.{map, refl, subst, sym}
use Rattle.std.specs.Prelude.{Result}
use Rattle.mon_host.specs.Log.{GoesOnBy}
use Rattle.mon_rounds.specs.declared.freshness.Spell.{Spell}
use Rattle.mon_station.specs.declared.fault.StationFault.{StationFault}
use Rattle.mon_station.specs.State.{state_of}
use Rattle.mon_station_commands.specs.Telling.{announced_notes}
use Rattle.mon_station_commands.specs.Spans.{IsAccountOf, IsOfRun}
use Rattle.mon_station_commands.proofs.Accounts.{unran}
use Rattle.mon_station_commands.proofs.Notified.{unfilled}
use Rattle.mon_station_commands.proofs.live.report_run.Goals as goal

pub returns-in-Ok-clause-account : goal.returns-in-Ok-clause-account
returns-in-Ok-clause-account g c =
    let live = c.args.live.now in
    let round = live.transport.rounds.round in
    subst (λ (n : Result Spell StationFault). GoesOnBy (λ log. IsAccountOf n (IsOfRun round.targets round.events live.run) (announced_notes live.reports.printing c.args.number (state_of live.station.life).board (map (λ w. w.items) live.course.windows.items) live.course.announcer) c.args.number
    live.kept.unsaved c.report_round.new.live.kept.unsaved log c.report_round.result) (g.H.Host.log c.args.host.now) (g.H.Host.log c.report_round.new.host)) (sym c.in-Ok.is)
    c.report_round.ensures.account

pub returns-in-Err-clause-account : goal.returns-in-Err-clause-account
returns-in-Err-clause-account g c =
    let live = c.args.live.now in
    let round = live.transport.rounds.round in
    unran (IsOfRun round.targets round.events live.run) (announced_notes live.reports.printing c.args.number (state_of live.station.life).board (map (λ w. w.items) live.course.windows.items) live.course.announcer) c.args.number c.args.ran c.in-Err.fault live.kept.unsaved live.kept.unsaved _
    (g.H.Host.log c.args.host.now) c.in-Err.is c.from.ensures refl

pub returns-in-Ok-clause-texts : goal.returns-in-Ok-clause-texts
returns-in-Ok-clause-texts g c =
    c.report_round.ensures.texts

pub returns-in-Err-clause-texts : goal.returns-in-Err-clause-texts
returns-in-Err-clause-texts g c =
    unfilled c.args.live.now.courier
