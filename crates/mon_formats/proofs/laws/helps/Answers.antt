use Rattle.mon_formats.proofs.Families.{plain_instances, plain_peers, plain_station, plain_targets}
use Rattle.mon_formats.proofs.laws.helps.Goals as goal

pub returns : goal.returns
returns c = record { instances = plain_instances; station = plain_station; peers = plain_peers; targets = plain_targets }
