use Rattle.std.proofs.Common.{◌++◌}
use Rattle.std.specs.Prelude.{codes}
use Rattle.mon_settings_commands.proofs.Lines.{has_line}
use Rattle.mon_settings_commands.proofs.failing.taken_failure.Goals as goal

pub returns : goal.returns
returns c = record {
  fault = c.said.ensures.fault;
  more = has_line c.format.result (c.args.path.now ++ codes ": a file is there, and is not replaced") c.said.result.more c.format.ensures.ok c.said.ensures.more;
  whole = c.said.ensures.whole;
}
