use Rattle.mon_vacm.specs.View.{IsInView}
use Rattle.mon_mib.specs.Known.{known_of}
use Rattle.mon_mib.specs.Tried.{IsPlannedTo}
use Rattle.mon_mib.proofs.mib.Mib.test_set.Given as goal

-- the bindings so far are accepted, and those of them that no later one of the same name follows
-- are planned
abbrev pub invariant-loop-i : goal.invariant-loop-i
invariant-loop-i g l =
    IsPlannedTo (known_of l.self.settings l.self.counters (g.D.Device.held l.self.device) l.moment)
    (IsInView l.policy.families l.access.view.now) l.bindings l.i l.steps.items
