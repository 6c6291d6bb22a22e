use Rattle.std.proofs.Common.{rules}
use Rattle.std.specs.Prelude.{IfOk}
use Rattle.mon_smi.specs.Tokens.{AreTokens}
use Rattle.mon_smi.proofs.ByPieces.{not_stuck, refused}
use Rattle.mon_smi.proofs.lexer.tokens.Goals as goal

pub returns-clause-stuck : goal.returns-clause-stuck
returns-clause-stuck c = λ at rest stuck.
    let found : IfOk c.tokens_of.result (λ v. AreTokens c.args.text.now v.items) = search rules in
    refused c.tokens_of.result (λ v are. not_stuck c.args.text.now v.items at rest are stuck) found
