use Rattle.mon_settings.specs.Watching.{object_from}
use Rattle.std.proofs.Common.{◌≡◌, map, take}
use Rattle.mon_settings.proofs.station.objects_from.Given as goal

-- those so far
abbrev pub invariant-loop-object : goal.invariant-loop-object
invariant-loop-object l = l.numbered.items ≡ map (object_from l.instances l.engine) (take l.object-index l.objects)
