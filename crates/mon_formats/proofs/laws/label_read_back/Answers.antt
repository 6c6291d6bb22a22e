use Rattle.mon_formats.proofs.Labels.{read_back}
use Rattle.mon_formats.proofs.laws.label_read_back.Goals as goal

pub returns : goal.returns
returns c = read_back
