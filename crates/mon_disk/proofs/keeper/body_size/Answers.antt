use Rattle.std.proofs.Common.{sym, length-drop}
use Rattle.mon_disk.proofs.keeper.body_size.Goals as goal

pub returns : goal.returns
returns c = sym (length-drop 16 c.args.octets.now)
