-- An argument of a command: an option, or a word in its place.
use Rattle.std.specs.Prelude.{ℕ, Bool, List}
use Rattle.mon_cli.specs.declared.lines.Form.{Form}
use Rattle.mon_cli.specs.declared.lines.Takes.{Takes}
use Rattle.mon_cli.specs.declared.lines.Line.{Line}

-- by which id it is read, how it is given, what it takes, and whether it is required
pub record Argument : Type 0 where
  pub id : List ℕ
  pub form : Form
  pub takes : Takes
  pub needed : Bool

-- a line of the program's tables, without its help
abbrev pub argument_of : Line → Argument
argument_of line = record {
  id = line.id.now;
  form = line.form;
  takes = line.takes;
  needed =
      line.needed;
}
