use Rattle.std.proofs.Common.{◌≡◌, map, take}
use Rattle.mon_rounds.specs.Freshness.{is_late}
use Rattle.mon_rounds.proofs.changes.late_targets.Given as goal

-- those so far
abbrev pub invariant-loop-target : goal.invariant-loop-target
invariant-loop-target l = l.late.items ≡ map is_late (take l.target-index l.targets)
