use Rattle.std.proofs.Common.{arith}
use Rattle.std.proofs.lemmas.Grind.{common_steps}
use Rattle.mon_formats.specs.Prometheus.{refusals_text}
use Rattle.mon_formats.proofs.prometheus.target.put_refusals.Goals as goal

pub loop-target-preserved : goal.loop-target-preserved
unfolding refusals_text
loop-target-preserved c = grind (arith, common_steps)

pub returns : goal.returns
unfolding refusals_text
returns c = grind (arith, common_steps)
