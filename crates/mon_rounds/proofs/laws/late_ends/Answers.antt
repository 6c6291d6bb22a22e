use Rattle.mon_rounds.proofs.Rows.{row_ends}
use Rattle.mon_rounds.proofs.laws.late_ends.Goals as goal

pub returns : goal.returns
returns c = row_ends
