use Rattle.mon_settings_commands.specs.Source.{source_in}
use Rattle.mon_settings_commands.proofs.Groups.{no_plan}
use Rattle.mon_settings_commands.proofs.parts.has_group.Goals as goal

pub returns-clause-refused : goal.returns-clause-refused
returns-clause-refused c =
    let is = c.choice.ensures in
    no_plan (source_in c.args.input.now) c.args.group c.choice.result c.in-Err.fault c.no_group.result (record { kinds = is.kinds; up = is.up; part = is.part; group = is.group }) c.in-Err.ensures.fault c.no_group.ensures.refused
