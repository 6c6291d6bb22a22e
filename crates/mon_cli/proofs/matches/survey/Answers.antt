use Rattle.std.proofs.Common.{arith}
use Rattle.mon_cli.proofs.Within.{within}
use Rattle.mon_cli.proofs.matches.survey.Goals as goal

pub returns-clause-within : goal.returns-clause-within
returns-clause-within c = (
  within 1 4294967295 _ _ c.number_or.result (omega arith) (omega arith) (omega arith) c.requires.1.1.0 c.number_or.ensures,
  within 1 64 _ _ c.number_or-2.result (omega arith) (omega arith) (omega arith) c.requires.1.1.1.1.1.0 c.number_or-2.ensures,
  within 1 60000 _ _ c.number_or-3.result (omega arith) (omega arith) (omega arith) c.requires.1.1.1.1.1.1.0 c.number_or-3.ensures,
  within 1 8 _ _ c.number_or-4.result (omega arith) (omega arith) (omega arith) c.requires.1.1.1.1.1.1.1.0 c.number_or-4.ensures,
  within 1 3 _ _ c.number_or-5.result (omega arith) (omega arith) (omega arith) c.requires.1.1.1.1.1.1.1.1.1.1.1.1.1.1.1.0 c.number_or-5.ensures,
  within 1 49435 _ _ c.number_or-6.result (omega arith) (omega arith) (omega arith) c.requires.1.1.1.1.1.1.1.1.1.1.1.1.1.1.1.1.0 c.number_or-6.ensures,
)
