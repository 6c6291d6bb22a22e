use Rattle.mon_placing.proofs.Counts.{counts}
use Rattle.mon_placing.proofs.laws.counts.Goals as goal

pub returns : goal.returns
returns c text stations machines e = counts text stations machines e
