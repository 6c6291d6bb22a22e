use Rattle.std.proofs.Common.{arith}
use Rattle.std.proofs.lemmas.Grind.{common_steps}
use Rattle.mon_formats.specs.Prometheus.{peer_metric}
use Rattle.mon_formats.proofs.prometheus.peer.put_peer_metric.Goals as goal

pub loop-peer-preserved : goal.loop-peer-preserved
unfolding peer_metric
loop-peer-preserved c = grind (arith, common_steps)

pub returns : goal.returns
unfolding peer_metric
returns c = grind (arith, common_steps)
