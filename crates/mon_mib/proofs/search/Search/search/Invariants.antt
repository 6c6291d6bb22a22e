use Rattle.mon_mib.specs.Instances.{room}
use Rattle.mon_mib.specs.Search.{IsSeenIn}
use Rattle.mon_mib.proofs.Gapped.{IsRest}
use Rattle.mon_mib.proofs.search.Search.search.Given as goal

-- what is left of the object's instances has all that are in view
abbrev pub invariant-loop-instance : goal.invariant-loop-instance
invariant-loop-instance g l = IsRest (g.D.Device.held l.self.map.device) (IsSeenIn l.self) l.object l.fn.start l.rest

abbrev pub decreases-loop-instance : goal.decreases-loop-instance
decreases-loop-instance g l = room l.rest
