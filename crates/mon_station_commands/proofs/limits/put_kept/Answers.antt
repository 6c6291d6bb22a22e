use Rattle.std.proofs.Common.{append_assoc}
use Rattle.mon_station_commands.proofs.limits.put_kept.Goals as goal

pub returns : goal.returns
returns c = simp append_assoc c.write.ensures.bytes
