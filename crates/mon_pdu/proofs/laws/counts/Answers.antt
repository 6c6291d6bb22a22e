use Rattle.mon_pdu.proofs.Sizes.{all_count}
use Rattle.mon_pdu.proofs.laws.counts.Goals as goal

pub returns : goal.returns
returns c = all_count
