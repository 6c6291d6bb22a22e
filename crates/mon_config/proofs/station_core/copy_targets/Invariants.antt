use Rattle.std.proofs.Common.{◌≡◌, take}
use Rattle.mon_config.proofs.station_core.copy_targets.Given as goal

-- what was copied so far
abbrev pub invariant-loop-target : goal.invariant-loop-target
invariant-loop-target l = l.copies.items ≡ take l.target-index l.all
