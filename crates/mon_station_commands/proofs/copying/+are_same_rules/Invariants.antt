use Rattle.std.proofs.Common.{length}
use Rattle.mon_station_commands.proofs.copying.+are_same_rules.Given as goal

-- how many are left
abbrev pub decreases-are_same_rules : goal.decreases-are_same_rules
decreases-are_same_rules l = length l.one.now
