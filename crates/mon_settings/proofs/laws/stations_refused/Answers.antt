use Rattle.mon_settings.proofs.StationFaults.{station_of-told}
use Rattle.mon_settings.proofs.laws.stations_refused.Goals as goal

pub returns : goal.returns
returns c = station_of-told
