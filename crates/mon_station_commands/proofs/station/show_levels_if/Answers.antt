use Rattle.std.proofs.Common.{Bool, [], refl, subst, sym, true}
use Rattle.std.specs.Prelude.{Ok}
use Rattle.mon_host.specs.AtHost.{LevelsShown}
use Rattle.mon_host.specs.Log.{GoesOnBy}
use Rattle.mon_host.proofs.Promised.{once, stays}
use Rattle.mon_station_commands.specs.Station.{AreLevels}
use Rattle.mon_station_commands.proofs.station.show_levels_if.Goals as goal

pub returns-then-shown : goal.returns-then-shown
returns-then-shown g c =
    let start = g.H.Host.log c.args.host.now in
    let end = g.H.Host.log c.show_levels.new.self in
    subst (λ (b : Bool). GoesOnBy (λ log. AreLevels b log (Ok tt)) start end) (sym c.if-shown.true)
    (once (λ log. AreLevels true log (Ok tt)) LevelsShown start end (refl, refl) c.show_levels.ensures)

pub returns-else-shown : goal.returns-else-shown
returns-else-shown g c =
    let start = g.H.Host.log c.args.host.now in
    subst (λ (b : Bool). GoesOnBy (λ log. AreLevels b log (Ok tt)) start start) (sym c.if-shown.false)
    record { more = []; holds = (refl, refl); on = stays start }
