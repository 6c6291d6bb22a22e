use Rattle.mon_formats.proofs.Families.{of_instances, of_peers, of_station, of_targets}
use Rattle.mon_formats.proofs.laws.families.Goals as goal

pub returns : goal.returns
returns c = record { instances = of_instances; station = of_station; peers = of_peers; targets = of_targets }
