use Rattle.std.proofs.Common.{take, List, ◌++◌}
use Rattle.mon_vacm.specs.declared.family.ViewTreeFamily.{ViewTreeFamily}
use Rattle.mon_vacm.specs.View.{IsBest}
use Rattle.mon_vacm.proofs.policy.strongest.Given as goal

-- the best of the others and the families so far
abbrev pub invariant-loop-family : goal.invariant-loop-family
invariant-loop-family l = (others : List ViewTreeFamily) → IsBest others l.view l.name l.fn.best → IsBest (others ++ take l.family-index l.families) l.view l.name l.found
