use Rattle.std.proofs.Common.{[]}
use Rattle.mon_table.proofs.Placed.{all_ordered, all_placed}
use Rattle.mon_table.proofs.laws.orders.Goals as goal

pub returns-clause-same : goal.returns-clause-same
returns-clause-same c order l rows = all_placed order l [] rows

pub returns-clause-sorted : goal.returns-clause-sorted
returns-clause-sorted c order l rows = all_ordered order l [] rows tt
