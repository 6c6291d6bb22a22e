use Rattle.std.proofs.Common.{arith}
use Rattle.std.proofs.lemmas.Grind.{common_steps}
use Rattle.mon_formats.specs.Json.{debt_data}
use Rattle.mon_formats.proofs.Arrays.{all_made}
use Rattle.mon_formats.proofs.as_json.debts_value.Goals as goal

pub returns : goal.returns
returns c = all_made debt_data c.args.debts.now c.loop-peer.values c.loop-peer.peer-index c.loop-peer-test.false c.loop-peer.invariant

pub loop-peer-preserved : goal.loop-peer-preserved
loop-peer-preserved c = grind (arith, common_steps)
