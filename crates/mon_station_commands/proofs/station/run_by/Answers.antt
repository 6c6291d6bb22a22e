use Rattle.std.proofs.Common.{subst, sym}
use Rattle.std.specs.Prelude.{Option}
use Rattle.mon_host.specs.Log.{GoesOnBy}
use Rattle.mon_station_commands.specs.Station.{IsSeenIf}
use Rattle.mon_station_commands.proofs.station.run_by.Goals as goal
use Rattle.mon_udp.specs.declared.addr.Addr.{Addr}

pub returns-in-None : goal.returns-in-None
returns-in-None g c =
    subst (λ (d : Option Addr). GoesOnBy (λ log. IsSeenIf d c.args.words c.args.setup.reports c.args.setup.settings log c.run_unseen.result)
    (g.H.Host.log c.args.host.now) (g.H.Host.log c.run_unseen.new.host)) (sym c.in-None.is) c.run_unseen.ensures

pub returns-in-Some : goal.returns-in-Some
returns-in-Some g c =
    subst (λ (d : Option Addr). GoesOnBy (λ log. IsSeenIf d c.args.words c.args.setup.reports c.args.setup.settings log c.run_shown.result)
    (g.H.Host.log c.args.host.now) (g.H.Host.log c.run_shown.new.host)) (sym c.in-Some.is) c.run_shown.ensures
