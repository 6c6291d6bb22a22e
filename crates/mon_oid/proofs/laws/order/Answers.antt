use Rattle.mon_oid.proofs.Order.{less_before, before_less}
use Rattle.mon_oid.proofs.laws.order.Goals as goal

pub returns : goal.returns
returns c = λ a b. (less_before a b, before_less a b)
