use Rattle.mon_settings_commands.specs.Network.{unported_line}
use Rattle.mon_settings_commands.proofs.Lines.{has_line}
use Rattle.mon_settings_commands.proofs.failing.unported_failure.Goals as goal

pub returns : goal.returns
returns c = record {
  fault = c.said.ensures.fault;
  more = has_line c.format.result (unported_line c.args.first c.args.groups) c.said.result.more c.format.ensures.ok c.said.ensures.more;
  whole = c.said.ensures.whole;
}
