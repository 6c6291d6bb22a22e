use Rattle.std.proofs.Common.{arith}
use Rattle.std.proofs.lemmas.Grind.{common_steps}
use Rattle.mon_cli.proofs.matches.asked_by.Goals as goal

pub returns-in-Bulk-clause-within : goal.returns-in-Bulk-clause-within
returns-in-Bulk-clause-within c = grind (arith, common_steps)
