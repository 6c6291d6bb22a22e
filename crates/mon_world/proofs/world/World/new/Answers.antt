use Rattle.mon_world.proofs.First.{first_shown}
use Rattle.mon_world.proofs.world.World.new.Goals as goal

pub returns-clause-opened : goal.returns-clause-opened
returns-clause-opened c =
    let stations = c.in_ok-stations.stations.items in
    first_shown c.args.core.now c.args.count stations c.new.result.items c.new.ensures.items c.in_ok-stations.ensures.count c.in_ok-stations.ensures.first
