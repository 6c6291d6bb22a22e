use Rattle.mon_placing.proofs.Counting.{apart}
use Rattle.mon_placing.proofs.laws.apart.Goals as goal

pub returns : goal.returns
returns c stations machines group one other enough less inside = apart stations machines group one other enough less inside
