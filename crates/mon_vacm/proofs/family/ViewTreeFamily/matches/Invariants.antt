use Rattle.std.proofs.Common.{◌≡◌, ◌<◌, ℕ}
use Rattle.std.specs.Prelude.{slice_index}
use Rattle.mon_vacm.specs.View.{MustAgree}
use Rattle.mon_vacm.proofs.family.ViewTreeFamily.matches.Given as goal

-- the name agrees wherever it must, so far
abbrev pub invariant-loop-i : goal.invariant-loop-i
invariant-loop-i l = (k : ℕ) → k < l.i → MustAgree l.self.mask k → slice_index l.parts k ≡ slice_index l.subtree k
