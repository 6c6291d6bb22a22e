use Rattle.mon_saved.proofs.Back.{saved_sets}
use Rattle.mon_saved.proofs.laws.saved_windows.Goals as goal

pub returns : goal.returns
returns c = saved_sets
