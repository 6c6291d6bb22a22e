use Rattle.mon_saved.proofs.Back.{kept_back, same_back}
use Rattle.mon_saved.proofs.laws.read_back.Goals as goal

pub returns-clause-kept : goal.returns-clause-kept
returns-clause-kept c = kept_back c.one_image.ensures

pub returns-clause-same : goal.returns-clause-same
returns-clause-same c = same_back c.one_image.ensures
