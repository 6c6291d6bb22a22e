use Rattle.std.proofs.Common.{arith}
use Rattle.std.proofs.lemmas.Grind.{common_steps}
use Rattle.mon_survey.proofs.moving.Places.objects_now.Goals as goal

pub loop-object-preserved : goal.loop-object-preserved
loop-object-preserved c = grind (arith, common_steps)
