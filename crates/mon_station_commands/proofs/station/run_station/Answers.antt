use Rattle.std.specs.Prelude.{Ok}
use Rattle.mon_host.proofs.Promised.{then_follows}
use Rattle.mon_station_commands.specs.Station.{AreLevels, IsStationIf}
use Rattle.mon_station_commands.proofs.station.run_station.Goals as goal

pub returns : goal.returns
returns g c =
    let words = c.args.words in
    then_follows (AreLevels words.log_levels) (λ (shown : Unit {0}). IsStationIf words.checks words) (Ok tt) c.run_or_check.result (g.H.Host.log c.args.host.now)
    (g.H.Host.log c.show_levels_if.new.host) (g.H.Host.log c.run_or_check.new.host) c.show_levels_if.ensures c.run_or_check.ensures
