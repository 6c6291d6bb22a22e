use Rattle.std.proofs.Common.{◌≡◌, take}
use Rattle.std.specs.List.{flat_map}
use Rattle.std.specs.Option.{option_to_list}
use Rattle.mon_survey.specs.Moved.{at_of, object_now}
use Rattle.mon_survey.proofs.moving.Places.objects_now.Given as goal

-- the objects so far
abbrev pub invariant-loop-object : goal.invariant-loop-object
invariant-loop-object l = l.all.items ≡ flat_map (λ o. option_to_list (object_now (at_of l.self) l.target.engine o)) (take l.object-index l.target.objects)
