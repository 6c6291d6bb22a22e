use Rattle.mon_placing.proofs.Counting.{even}
use Rattle.mon_placing.proofs.laws.even.Goals as goal

pub returns : goal.returns
returns c stations machines groups one other first second = even stations machines groups one other first second
