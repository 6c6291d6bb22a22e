-- The command lines as clap's model has them: rules of arguments, shapes of commands, and the
-- program.
use Rattle.std.specs.Prelude.{◌≡◌, ◌⊎◌, Result, Ok, Err, List, [], ◌∷◌, Some, fold, codes, false}
use Rattle.clap.specs.Words.{App, IsAmong, Rule, Text, app_of, fault_of, found_of, kind_of}
use Rattle.clap.specs.Words.{matches_of, new_app, new_rule, rows_of, subcommand_of}
use Rattle.clap.specs.Words.{subcommand_rows_of, with_rule, with_subcommand}
use Rattle.clap.specs.declared.error.Error.{Error}
use Rattle.clap.specs.declared.error.ErrorKind.TheVariants.{OutOfMemory}
use Rattle.clap.specs.declared.parser.matches.ArgMatches.{ArgMatches}
use Rattle.clap.specs.Lexer.{usize_max}
use Rattle.clap.specs.Walk.{texts}
use Rattle.clap.specs.declared.builder.action.ArgAction.TheVariants.{Set, Append, SetTrue}
use Rattle.clap.specs.declared.builder.command.Command.{Command}
use Rattle.clap.specs.declared.builder.command.Command.TheViews.{out-Command}
use Rattle.clap.specs.declared.builder.value_parser.ValueParser.{ValueParser}
use Rattle.clap.specs.declared.builder.value_parser.ValueParser.TheVariants as parser
use Rattle.mon_cli.specs.Choice.{word_of, choices}
use Rattle.mon_cli.specs.Line.{Argument, argument_of}
use Rattle.mon_cli.specs.declared.lines.Line.{Line}
use Rattle.mon_cli.specs.Table.{arguments, first_arguments}
use Rattle.mon_cli.specs.declared.choice.Choice.{Choice}
use Rattle.mon_cli.specs.declared.parser.Lists.{Lists}
use Rattle.mon_cli.specs.declared.lines.Value.{Value}
use Rattle.mon_cli.specs.declared.lines.Value.TheVariants as value
use Rattle.mon_cli.specs.declared.lines.Takes.{Takes}
use Rattle.mon_cli.specs.declared.lines.Takes.TheVariants.{Nothing, One, Each, Many}
use Rattle.mon_cli.specs.declared.lines.Form.{Form}
use Rattle.mon_cli.specs.declared.lines.Form.TheVariants.{Place, Long, Short, Both}

-- ---- the texts of which a value must be one

-- the texts for the formats, for the kinds and for the orders of rows
abbrev pub IsLists : Lists → Type 0
IsLists lists = (texts lists.formats.now
    ≡ codes "text" ∷ codes "json" ∷ codes "prometheus" ∷ codes "openmetrics" ∷ codes "columns"
    ∷ codes "html" ∷ [])
    × (texts lists.kinds.now ≡ codes "integer" ∷ codes "string" ∷ codes "hex" ∷ codes "oid"
    ∷ codes "ip"
    ∷ codes "counter32" ∷ codes "gauge32" ∷ codes "timeticks" ∷ codes "counter64" ∷ [])
    × (texts lists.sorts.now ≡ codes "name" ∷ codes "rate" ∷ codes "alarm" ∷ codes "age" ∷ [])

-- ---- arguments

-- clap's parser of a kind of value
abbrev pub parser_of : Lists → Value → ValueParser
parser_of lists value.Text = parser.String
parser_of lists value.Format = parser.Names lists.formats
parser_of lists value.Kind = parser.Names lists.kinds
parser_of lists value.Sort = parser.Names lists.sorts
parser_of lists (value.Number low high) = parser.Signed low high
parser_of lists (value.Natural low high) = parser.Unsigned low high

-- how it is given
abbrev pub with_form : Form → Text → Rule → Rule
with_form Place id rule = rule
with_form Long id rule = record rule { long = Some id }
with_form (Short c) id rule = record rule { short = Some c }
with_form (Both c) id rule = record rule { short = Some c; long = Some id }

-- what it takes
abbrev pub with_takes : Lists → Takes → Rule → Rule
with_takes lists Nothing rule = record rule { action = Some SetTrue }
with_takes lists (One v) rule = record rule {
  action = Some Set;
  parser = Some (parser_of lists v);
  value_names = 1;
}
with_takes lists (Each v) rule = record rule {
  action = Some Append;
  parser = Some
      (parser_of lists v);
  value_names = 1;
}
with_takes lists (Many v) rule = record rule {
  action = Some Append;
  parser = Some (parser_of lists v);
  value_names = 1;
  range = Some (record { start_inclusive = 1; end_inclusive = usize_max });
}

-- clap's rule of an argument
abbrev pub rule_for : Lists → Argument → Rule
rule_for lists a = with_takes lists a.takes (with_form a.form a.id
    (record (new_rule a.id) { required = a.needed }))

-- ---- commands

-- clap's app of a command with no argument that is global
abbrev pub HasApp : App → Command → Type 0
HasApp app command = (app_of command ≡ app) × ((out-Command command).has_globals ≡ false)

-- an app with one argument more
abbrev pub with_argument : Lists → App → Argument → App
with_argument lists app a = with_rule app (rule_for lists a)

-- an app with these arguments, in their order
abbrev pub with_arguments : Lists → App → List Argument → App
with_arguments lists app list = fold (with_argument lists) app list

-- a line's argument
abbrev pub with_line : Lists → App → Line → App
with_line lists app line = with_argument lists app (argument_of line)

-- the app of a command: its word and its arguments
abbrev pub command_app : Lists → Choice → App
command_app lists choice = with_arguments lists (new_app (word_of choice)) (arguments choice)

-- an app with one command more
abbrev pub with_command : Lists → App → Choice → App
with_command lists app choice = with_subcommand app (command_app lists choice).top

-- all commands
abbrev pub program : Lists → App
program lists = fold (with_command lists) (with_arguments lists (new_app (codes "snmpmon"))
    first_arguments) choices

-- the command is the program
abbrev pub IsProgram : Command → Type 0
IsProgram command = (lists : Lists) × IsLists lists × HasApp (program lists) command

-- the matches are those that the program gives of these words, which it takes
abbrev pub IsParseOf : List Text → ArgMatches → Type 0
IsParseOf words m = (lists : Lists) × IsLists lists × (fault_of (program lists) words ≡ [])
    × (rows_of (found_of m) ≡ matches_of (program lists) words)
    × (subcommand_rows_of m ≡ subcommand_of (program lists) words)

-- and so of some words
abbrev pub IsParse : ArgMatches → Type 0
IsParse m = (words : List Text) × IsParseOf words m

-- how arguments are read: the program's matches of them, or an error of a kind that the program
-- makes of them, or memory ran out
abbrev pub Reads : List Text → Result ArgMatches Error → Type 0
Reads words (Ok m) = IsParseOf words m
Reads words (Err e) = (kind_of e ≡ OutOfMemory) ⊎ ((lists : Lists) × IsLists lists
    × IsAmong (kind_of e) (fault_of (program lists) words))
