use Rattle.std.proofs.Common.{◌≡◌, ◌++◌, length}
use Rattle.mon_smi.specs.Lexemes.{AreTokensOf, lexemes}
use Rattle.mon_smi.proofs.lexeme.lexemes.Given as goal

abbrev pub invariant-loop-rest : goal.invariant-loop-rest
invariant-loop-rest l = record {
  left : AreTokensOf l.text l.rest;
  so_far : l.lexemes.items ++ lexemes l.text l.rest ≡ lexemes l.text l.tokens;
}

abbrev pub decreases-loop-rest : goal.decreases-loop-rest
decreases-loop-rest l = length l.rest
