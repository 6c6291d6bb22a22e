use Rattle.mon_table.proofs.Aligned.{aligned}
use Rattle.mon_table.proofs.laws.names_in_one_column.Goals as goal

pub returns : goal.returns
returns c aged cells narrow = aligned aged cells narrow
