use Rattle.mon_settings_commands.specs.Walked.{unending_line}
use Rattle.mon_settings_commands.proofs.Lines.{has_line}
use Rattle.mon_settings_commands.proofs.asking.unending.Goals as goal

pub returns : goal.returns
returns c = record {
  fault = c.said.ensures.fault;
  more = has_line c.unending_text.result (unending_line c.args.agent.now c.args.column.now) c.said.result.more c.unending_text.ensures c.said.ensures.more;
  whole = c.said.ensures.whole;
}
