use Rattle.std.proofs.Common.{length}
use Rattle.mon_station_commands.proofs.troubles.+count_alike.Given as goal

-- how many keys are left
abbrev pub decreases-count_alike : goal.decreases-count_alike
decreases-count_alike l = length l.keys.now
