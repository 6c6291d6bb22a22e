use Rattle.mon_page.proofs.Instances.{row_at}
use Rattle.mon_page.proofs.laws.rows_in_place.Goals as goal

pub returns : goal.returns
returns c = row_at
