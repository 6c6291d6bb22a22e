use Rattle.std.proofs.Common.{rules, subst}
use Rattle.clap.specs.Words.{App}
use Rattle.mon_cli.specs.Program.{HasApp, with_command}
use Rattle.mon_cli.proofs.Adding.{at_end, command_more}
use Rattle.mon_cli.proofs.parser.with_commands.Goals as goal

pub loop-choice-preserved : goal.loop-choice-preserved
loop-choice-preserved c = λ before has.
    command_more c.args.lists before c.args.choices.now c.loop-choice.choice-index _ _ (search rules) (c.in_ok-command.ensures _ (c.loop-choice.invariant before has))

pub returns : goal.returns
returns c = λ before has.
    subst (λ (app : App). HasApp app c.loop-choice.command) (at_end (with_command c.args.lists) before c.args.choices.now c.loop-choice.choice-index (search rules)) (c.loop-choice.invariant before has)
