use Rattle.std.proofs.Common.{◌++◌}
use Rattle.std.specs.Prelude.{codes}
use Rattle.mon_carry_commands.proofs.Steps.{has_line}
use Rattle.mon_carry_commands.proofs.saving.in_use.Goals as goal

pub returns-clause-more : goal.returns-clause-more
returns-clause-more c =
    has_line c.format.result (c.args.path.now ++ codes ": another process has the file open as a station's") c.said.result.more c.format.ensures.ok c.said.ensures.more
