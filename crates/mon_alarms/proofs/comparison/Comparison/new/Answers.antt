use Rattle.std.proofs.Common.{refl}
use Rattle.mon_alarms.proofs.comparison.Comparison.new.Goals as goal

pub returns : goal.returns
returns c = λ rule. record { all = c.new.ensures rule; known = c.new-2.ensures rule; last = refl; new = refl }
