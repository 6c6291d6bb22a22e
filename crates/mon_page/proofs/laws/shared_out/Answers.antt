use Rattle.mon_page.proofs.Neighbours.{one_after_another}
use Rattle.mon_page.proofs.Sharing.{each_once}
use Rattle.mon_page.proofs.laws.shared_out.Goals as goal

pub returns-clause-devices : goal.returns-clause-devices
returns-clause-devices c = one_after_another

pub returns-clause-once : goal.returns-clause-once
returns-clause-once c = each_once
