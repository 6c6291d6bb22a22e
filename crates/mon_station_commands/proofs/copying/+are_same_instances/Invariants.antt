use Rattle.std.proofs.Common.{length}
use Rattle.mon_station_commands.proofs.copying.+are_same_instances.Given as goal

-- how many are left
abbrev pub decreases-are_same_instances : goal.decreases-are_same_instances
decreases-are_same_instances l = length l.one.now
