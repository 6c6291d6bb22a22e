use Rattle.std.proofs.Common.{◌++◌}
use Rattle.mon_settings_commands.specs.Network.{machines_words}
use Rattle.mon_settings_commands.proofs.Lines.{has_line}
use Rattle.mon_settings_commands.proofs.Seated.{other_machines}
use Rattle.mon_settings_commands.proofs.failing.machines_failure.Goals as goal

pub returns-in_default : goal.returns-in_default
returns-in_default c = other_machines c.args.path.now c.args.fault c.said.result c.in_default.not-OutOfMemory (record {
  fault = c.said.ensures.fault;
  more = has_line c.machines_text.result (c.args.path.now ++ machines_words c.args.fault) c.said.result.more c.machines_text.ensures c.said.ensures.more;
  whole = c.said.ensures.whole;
})
