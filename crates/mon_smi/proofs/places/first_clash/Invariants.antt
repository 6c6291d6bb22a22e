use Rattle.std.proofs.Common.{List, ℕ, ◌++◌, take}
use Rattle.std.specs.BTreeMap.{get_by}
use Rattle.std.specs.Ordering.{nat_cmp}
use Rattle.std.specs.Cmp.Lexicographic.{slice_cmp}
use Rattle.mon_smi.specs.Names.{AreDistinct}
use Rattle.mon_smi.proofs.Indexed.{AreTold}
use Rattle.mon_smi.proofs.places.first_clash.Given as goal

-- the names so far are new, and their places are known
abbrev pub invariant-loop-added : goal.invariant-loop-added
invariant-loop-added l = record {
  told : AreTold (λ (q : List ℕ). get_by (λ k. slice_cmp nat_cmp q k.now) l.passed) (take l.added l.defs);
  distinct : AreDistinct (l.known ++ take l.added l.defs);
}
