use Rattle.std.proofs.lemmas.Result.{IfOk-weaker}
use Rattle.mon_cli.proofs.Adding.{command_added}
use Rattle.mon_cli.proofs.parser.with_command.Goals as goal

pub returns : goal.returns
returns c = λ before has.
    IfOk-weaker c.subcommand.result _ _ (λ r adds. command_added c.args.lists before c.args.choice _ _ r has c.in_ok-one.ensures adds) c.subcommand.ensures
