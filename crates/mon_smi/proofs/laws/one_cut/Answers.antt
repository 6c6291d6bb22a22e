use Rattle.mon_smi.proofs.ByPieces.{one_cut}
use Rattle.mon_smi.proofs.laws.one_cut.Goals as goal

pub returns : goal.returns
returns c = one_cut
