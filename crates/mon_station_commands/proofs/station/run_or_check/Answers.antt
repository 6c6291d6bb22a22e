use Rattle.std.proofs.Common.{Bool, subst, sym}
use Rattle.mon_host.specs.Log.{GoesOnBy}
use Rattle.mon_station_commands.specs.Station.{IsStationIf}
use Rattle.mon_station_commands.proofs.station.run_or_check.Goals as goal

pub returns-then-words : goal.returns-then-words
returns-then-words g c =
    subst (λ (b : Bool). GoesOnBy (λ log. IsStationIf b c.args.words log c.check_station.result) (g.H.Host.log c.args.host.now) (g.H.Host.log c.check_station.new.host))
    (sym c.if-words.true) c.check_station.ensures

pub returns : goal.returns
returns g c =
    subst (λ (b : Bool). GoesOnBy (λ log. IsStationIf b c.args.words log c.run_words.result) (g.H.Host.log c.args.host.now) (g.H.Host.log c.run_words.new.host))
    (sym c.if-words.false) c.run_words.ensures
