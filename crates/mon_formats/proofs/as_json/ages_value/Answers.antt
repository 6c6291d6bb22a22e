use Rattle.std.proofs.Common.{arith}
use Rattle.std.proofs.lemmas.Grind.{common_steps}
use Rattle.mon_formats.specs.Json.{age_data}
use Rattle.mon_formats.proofs.Arrays.{all_made}
use Rattle.mon_formats.proofs.as_json.ages_value.Goals as goal

pub returns : goal.returns
returns c = all_made age_data c.args.ages.now c.loop-age.values c.loop-age.age-index c.loop-age-test.false c.loop-age.invariant

pub loop-age-preserved : goal.loop-age-preserved
loop-age-preserved c = grind (arith, common_steps)
