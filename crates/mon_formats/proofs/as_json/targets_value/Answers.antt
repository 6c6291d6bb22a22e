use Rattle.std.proofs.Common.{arith}
use Rattle.std.proofs.lemmas.Grind.{common_steps}
use Rattle.mon_formats.specs.Json.{target_data}
use Rattle.mon_formats.proofs.Arrays.{all_made}
use Rattle.mon_formats.proofs.as_json.targets_value.Goals as goal

pub returns : goal.returns
returns c = all_made target_data c.args.targets.now c.loop-target.values c.loop-target.target-index c.loop-target-test.false c.loop-target.invariant

pub loop-target-preserved : goal.loop-target-preserved
loop-target-preserved c = grind (arith, common_steps)
