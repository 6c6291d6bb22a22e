use Rattle.std.proofs.Common.{◌≡◌, length}
use Rattle.mon_station_commands.proofs.live.engines_of.Given as goal

-- each of the targets so far gave an engine id
abbrev pub invariant-loop-target : goal.invariant-loop-target
invariant-loop-target l = length l.engines.items ≡ l.target-index
