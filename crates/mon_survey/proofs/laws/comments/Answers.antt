use Rattle.mon_survey.proofs.Comments.{stays}
use Rattle.mon_survey.proofs.laws.comments.Goals as goal

pub returns : goal.returns
returns c = stays
