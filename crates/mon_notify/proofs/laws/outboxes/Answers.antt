use Rattle.mon_notify.proofs.Kept.{kept}
use Rattle.mon_notify.proofs.laws.outboxes.Goals as goal

pub returns : goal.returns
returns c = kept
