use Rattle.std.proofs.Common.{◌+◌}
use Rattle.std.specs.Prelude.{codes, decimal}
use Rattle.mon_settings_commands.specs.Parts.{part_path}
use Rattle.mon_settings_commands.proofs.Lines.{of_4, reads_as}
use Rattle.mon_settings_commands.proofs.parts.part_path.Goals as goal

pub returns : goal.returns
returns c = reads_as c.format.result _ (part_path c.args.folder.now c.args.place) c.format.ensures.ok
    (of_4 c.args.folder.now (codes "/station-") (decimal (c.args.place + 1)) (codes ".toml"))
