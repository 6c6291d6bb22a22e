use Rattle.mon_settings.specs.Watching.{target_from}
use Rattle.std.proofs.Common.{◌≡◌, map, take}
use Rattle.mon_settings.proofs.station.targets_from.Given as goal

-- those so far
abbrev pub invariant-loop-target : goal.invariant-loop-target
invariant-loop-target l = l.numbered.items ≡ map (target_from l.instances) (take l.target-index l.targets)
