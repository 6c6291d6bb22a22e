use Rattle.std.proofs.Common.{length}
use Rattle.mon_smi.proofs.ByPieces.{IsSoFar}
use Rattle.mon_smi.proofs.lexer.tokens_of.Given as goal

abbrev pub invariant-loop-rest : goal.invariant-loop-rest
invariant-loop-rest l = IsSoFar l.text l.tokens.items l.start l.rest

abbrev pub decreases-loop-rest : goal.decreases-loop-rest
decreases-loop-rest l = length l.rest
