use Rattle.mon_settings.specs.Resolving.{resolution}
use Rattle.mon_settings.proofs.ForStations.{station_of-is}
use Rattle.mon_settings.proofs.laws.stations.Goals as goal

pub returns : goal.returns
returns c = λ defs distinct. station_of-is defs (resolution defs) (c.resolving.ensures defs distinct)
