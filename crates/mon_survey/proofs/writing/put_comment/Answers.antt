use Rattle.std.proofs.Common.{arith}
use Rattle.std.proofs.lemmas.Grind.{common_steps}
use Rattle.mon_survey.specs.Text.{comment_text}
use Rattle.mon_survey.proofs.writing.put_comment.Goals as goal

pub returns : goal.returns
unfolding comment_text
returns c = grind (arith, common_steps)
