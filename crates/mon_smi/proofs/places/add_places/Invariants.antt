use Rattle.std.proofs.Common.{◌++◌, take}
use Rattle.mon_smi.specs.Places.{AreFound}
use Rattle.mon_smi.proofs.places.add_places.Given as goal

-- the known ones are found, and this many behind them
abbrev pub invariant-loop-i : goal.invariant-loop-i
invariant-loop-i l = AreFound l.places (l.known ++ take l.i l.defs)
