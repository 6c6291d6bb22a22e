use Rattle.std.proofs.Common.{fold, take}
use Rattle.clap.specs.Words.{App}
use Rattle.mon_cli.specs.Program.{HasApp, with_command}
use Rattle.mon_cli.proofs.parser.with_commands.Given as goal

-- the command has those before this one below it
abbrev pub invariant-loop-choice : goal.invariant-loop-choice
invariant-loop-choice l = (before : App) → HasApp before l.fn.command → HasApp (fold (with_command l.fn.lists) before (take l.choice-index l.fn.choices)) l.command
