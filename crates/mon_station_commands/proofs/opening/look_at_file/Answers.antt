use Rattle.std.proofs.Common.{List, ℕ, subst}
use Rattle.mon_host.specs.Log.{GoesOnBy}
use Rattle.mon_station_commands.specs.Places.{MayBeThere}
use Rattle.mon_station_commands.proofs.Joined.{looked}
use Rattle.mon_station_commands.proofs.opening.look_at_file.Goals as goal

pub returns : goal.returns
returns g c =
    let start = g.H.Host.log c.args.host.now in
    let asked = g.H.Host.log c.may_be_there-there.new.host in
    looked c.args.settings.now c.may_be_there-there.result c.read_if.result start asked (g.H.Host.log c.read_if.new.host)
    (subst (λ (p : List ℕ). GoesOnBy (λ log. MayBeThere p log c.may_be_there-there.result) start asked) c.deref.ensures c.may_be_there-there.ensures) c.read_if.ensures
