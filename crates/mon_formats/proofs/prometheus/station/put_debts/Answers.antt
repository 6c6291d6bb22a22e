use Rattle.std.proofs.Common.{arith}
use Rattle.std.proofs.lemmas.Grind.{common_steps}
use Rattle.mon_formats.specs.Prometheus.{debts_text}
use Rattle.mon_formats.proofs.prometheus.station.put_debts.Goals as goal

pub loop-peer-preserved : goal.loop-peer-preserved
unfolding debts_text
loop-peer-preserved c = grind (arith, common_steps)

pub returns : goal.returns
unfolding debts_text
returns c = grind (arith, common_steps)
