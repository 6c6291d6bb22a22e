use Rattle.std.proofs.Common.{map}
use Rattle.mon_cli.proofs.Simple.{no_memory, reads}
use Rattle.mon_cli.proofs.parser.read.Goals as goal

pub returns-in_err-command : goal.returns-in_err-command
returns-in_err-command g c = no_memory (map g.S.AsStr.text c.args.words.now) _ c.from_residual.ensures.1

pub returns : goal.returns
returns g c =
    let program = c.in_ok-command.ensures in
    reads program.0 _ (map g.S.AsStr.text c.args.words.now) c.try_get_matches_from.result program.1 program.2.0 c.try_get_matches_from.ensures.matches c.try_get_matches_from.ensures.kinds
