use Rattle.mon_own_watch.proofs.Kept.{all_kept, all_restored}
use Rattle.mon_own_watch.proofs.laws.whole.Goals as goal

pub returns-clause-kept : goal.returns-clause-kept
returns-clause-kept c = all_kept c.one_image.ensures

pub returns-clause-restored : goal.returns-clause-restored
returns-clause-restored c = all_restored c.one_image.ensures
