use Rattle.mon_mib.proofs.Lasting.{AreLastUpTo}
use Rattle.mon_mib.proofs.setting.last_places.Given as goal

-- the places are the last ones among the bindings so far
abbrev pub invariant-loop-i : goal.invariant-loop-i
invariant-loop-i l = AreLastUpTo l.bindings l.i l.places
