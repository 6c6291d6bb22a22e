use Rattle.std.proofs.Common.{fold, take}
use Rattle.clap.specs.Words.{App}
use Rattle.mon_cli.specs.Program.{HasApp, with_line}
use Rattle.mon_cli.proofs.parser.with_lines.Given as goal

-- the command has the arguments of the lines before this one
abbrev pub invariant-loop-line : goal.invariant-loop-line
invariant-loop-line l = (before : App) → HasApp before l.fn.command → HasApp (fold (with_line l.fn.lists) before (take l.line-index l.fn.lines)) l.command
