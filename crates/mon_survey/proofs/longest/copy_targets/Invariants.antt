use Rattle.std.proofs.Common.{◌≡◌, take}
use Rattle.mon_survey.proofs.longest.copy_targets.Given as goal

-- the copies so far
abbrev pub invariant-loop-target : goal.invariant-loop-target
invariant-loop-target l = l.copies.items ≡ take l.target-index l.targets
