use Rattle.mon_rounds.proofs.Rows.{row_at_most}
use Rattle.mon_rounds.proofs.laws.late_in_a_row.Goals as goal

pub returns : goal.returns
returns c = row_at_most
