use Rattle.mon_vacm.specs.View.{IsInView}
use Rattle.mon_mib.proofs.Unique.{one_next}
use Rattle.mon_mib.proofs.laws.one_next.Goals as goal

pub returns : goal.returns
returns c = λ k families view. one_next k (IsInView families view)
