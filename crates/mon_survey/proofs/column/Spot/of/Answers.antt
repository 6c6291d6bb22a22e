use Rattle.std.proofs.Common.{arith}
use Rattle.std.proofs.lemmas.Grind.{common_steps}
use Rattle.mon_survey.specs.Column.{spot_of}
use Rattle.mon_survey.proofs.column.Spot.of.Goals as goal

pub returns-then-starts_with : goal.returns-then-starts_with
unfolding spot_of
returns-then-starts_with c = grind (arith, common_steps)
