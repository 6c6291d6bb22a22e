use Rattle.mon_page.proofs.Instances.{unlabelled_page}
use Rattle.mon_page.proofs.laws.empty_labels.Goals as goal

pub returns : goal.returns
returns c = unlabelled_page
