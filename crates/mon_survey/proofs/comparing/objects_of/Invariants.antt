use Rattle.std.proofs.Common.{◌≡◌, take}
use Rattle.std.specs.List.{flat_map}
use Rattle.mon_survey.proofs.comparing.objects_of.Given as goal

-- the objects of the targets so far
abbrev pub invariant-loop-target : goal.invariant-loop-target
invariant-loop-target l = l.all.items ≡ flat_map (λ t. t.objects) (take l.target-index l.targets)
