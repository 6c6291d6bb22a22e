use Rattle.std.proofs.Common.{◌≡◌, take}
use Rattle.std.specs.List.{flat_map}
use Rattle.std.specs.Option.{option_to_list}
use Rattle.mon_survey.specs.Moved.{at_of, target_now}
use Rattle.mon_survey.proofs.moving.Places.targets_now.Given as goal

-- the targets so far
abbrev pub invariant-loop-target : goal.invariant-loop-target
invariant-loop-target l = l.all.items ≡ flat_map (λ t. option_to_list (target_now (at_of l.self) t)) (take l.target-index l.targets)
