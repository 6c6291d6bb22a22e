use Rattle.std.proofs.Common.{arith}
use Rattle.std.proofs.lemmas.Grind.{common_steps}
use Rattle.mon_smi.specs.Scan.{piece_at}
use Rattle.mon_smi.proofs.pieces.piece_at.Goals as goal

pub returns : goal.returns
unfolding piece_at
returns c = grind (arith, common_steps)
