use Rattle.std.proofs.Common.{◌≡◌, ℕ, ◌<◌}
use Rattle.mon_mib.specs.Sim.{indexes_of}
use Rattle.mon_mib.proofs.Simulated.{before, IsGood}
use Rattle.mon_mib.proofs.sim_device.are_indexes.Given as goal

-- the indexes so far rise, and the last of them is kept
abbrev pub invariant-loop-interface : goal.invariant-loop-interface
invariant-loop-interface l = record {
  last : l.last ≡ before (indexes_of l.interfaces) l.interface-index;
  good : (j : ℕ) → j < l.interface-index → IsGood (indexes_of l.interfaces) j;
}
