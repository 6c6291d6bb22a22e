use Rattle.mon_placing.proofs.Seats.{seated}
use Rattle.mon_placing.proofs.laws.seated.Goals as goal

pub returns : goal.returns
returns c network groups place are inside = seated network groups place are inside
