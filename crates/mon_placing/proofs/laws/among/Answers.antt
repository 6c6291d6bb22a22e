use Rattle.mon_placing.proofs.Counting.{among}
use Rattle.mon_placing.proofs.laws.among.Goals as goal

pub returns : goal.returns
returns c stations machines group station some = among stations machines group station some
