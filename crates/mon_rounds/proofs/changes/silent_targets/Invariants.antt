use Rattle.std.proofs.Common.{◌≡◌, map, take}
use Rattle.mon_rounds.specs.Changes.{is_silent}
use Rattle.mon_rounds.proofs.changes.silent_targets.Given as goal

-- those so far
abbrev pub invariant-loop-target : goal.invariant-loop-target
invariant-loop-target l = l.silent.items ≡ map is_silent (take l.target-index l.targets)
