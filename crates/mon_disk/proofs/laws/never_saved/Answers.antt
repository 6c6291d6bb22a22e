use Rattle.mon_disk.proofs.Promised.{never_saved}
use Rattle.mon_disk.proofs.laws.never_saved.Goals as goal

pub returns : goal.returns
returns c = never_saved
