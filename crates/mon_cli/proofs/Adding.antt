-- Commands to which arguments and subcommands are added one by one.
use Rattle.std.proofs.Common.{◌≡◌, ◌∙◌, ℕ, ◌+◌, ◌<◌, ◌≤◌, ◌||◌, false, List, fold, take, length, get_or, ap, ap₂, sym, take_all}
use Rattle.std.proofs.lemmas.List.Sums.{fold_more}
use Rattle.clap.specs.Words.{AddsArg, AddsSubcommand, App, rule_of, with_rule, with_subcommand}
use Rattle.clap.specs.declared.builder.arg.Arg.{Arg}
use Rattle.clap.specs.declared.builder.command.Command.{Command}
use Rattle.mon_cli.specs.Line.{argument_of}
use Rattle.mon_cli.specs.Program.{HasApp, command_app, rule_for, with_command, with_line}
use Rattle.mon_cli.specs.declared.choice.Choice.{Choice}
use Rattle.mon_cli.specs.declared.lines.Line.{Line}
use Rattle.mon_cli.specs.declared.parser.Lists.{Lists}

module _ (lists : Lists) (before : App) where
  -- one more line
  pub line_more : (lines : List Line) (i : ℕ) (d : Line) (old new : Command) (a : Arg) → i < length lines
      → HasApp (fold (with_line lists) before (take i lines)) old → rule_of a ≡ rule_for lists (argument_of (get_or lines i d)) → a.global ≡ false → AddsArg old a new
      → HasApp (fold (with_line lists) before (take (i + 1) lines)) new
  line_more lines i d old new a lt has rule local adds = (
    adds.shape local ∙ (ap₂ with_rule has.0 rule ∙ sym (fold_more (with_line lists) before lines i d lt)),
    adds.globals ∙ ap₂ (λ x y. x || y) has.1 local,
  )

  -- one more command
  pub command_more : (choices : List Choice) (i : ℕ) (d : Choice) (new : Command) → i < length choices
      → HasApp (with_command lists (fold (with_command lists) before (take i choices)) (get_or choices i d)) new
      → HasApp (fold (with_command lists) before (take (i + 1) choices)) new
  command_more choices i d new lt has = (has.0 ∙ sym (fold_more (with_command lists) before choices i d lt), has.1)

-- a command below another one
pub command_added : (lists : Lists) (before : App) (choice : Choice) (old sub new : Command)
    → HasApp before old → HasApp (command_app lists choice) sub → AddsSubcommand old sub new → HasApp (with_command lists before choice) new
command_added lists before choice old sub new has below adds = (
  adds.shape below.1 ∙ ap₂ (λ (x y : App). with_subcommand x y.top) has.0 below.0,
  adds.globals ∙ ap₂ (λ x y. x || y) has.1 below.1,
)

-- the last turn of a loop
pub at_end : {X Y : Type 0} (f : Y → X → Y) (a : Y) (xs : List X) (i : ℕ) → length xs ≤ i → fold f a (take i xs) ≡ fold f a xs
at_end f a xs i le = ap (fold f a) (take_all i xs le)
