use Rattle.std.proofs.Common.{arith}
use Rattle.std.proofs.lemmas.Grind.{common_steps}
use Rattle.mon_formats.specs.Prometheus.{target_metric}
use Rattle.mon_formats.proofs.prometheus.target.put_target_metric.Goals as goal

pub loop-target-preserved : goal.loop-target-preserved
unfolding target_metric
loop-target-preserved c = grind (arith, common_steps)

pub returns : goal.returns
unfolding target_metric
returns c = grind (arith, common_steps)
