use Rattle.std.proofs.Common.{rules, subst}
use Rattle.clap.specs.Words.{App}
use Rattle.mon_cli.specs.Program.{HasApp, with_line}
use Rattle.mon_cli.proofs.Adding.{at_end, line_more}
use Rattle.mon_cli.proofs.parser.with_lines.Goals as goal

pub loop-line-preserved : goal.loop-line-preserved
loop-line-preserved c = λ before has.
    line_more c.args.lists before c.args.lines.now c.loop-line.line-index _ _ _ _ (search rules) (c.loop-line.invariant before has)
    c.argument.ensures.rule c.argument.ensures.local c.in_ok-command.ensures

pub returns : goal.returns
returns c = λ before has.
    subst (λ (app : App). HasApp app c.loop-line.command) (at_end (with_line c.args.lists) before c.args.lines.now c.loop-line.line-index (search rules)) (c.loop-line.invariant before has)
