use Rattle.std.proofs.Common.{◌≡◌, ◌++◌, take}
use Rattle.mon_survey.proofs.comparing.add_objects.Given as goal

-- the objects so far
abbrev pub invariant-loop-object : goal.invariant-loop-object
invariant-loop-object l = l.all.items ≡ l.initial.all.items ++ take l.object-index l.objects
