use Rattle.mon_sample.proofs.Octets.{layout-key}
use Rattle.mon_sample.proofs.laws.octets_by_field.Goals as goal

pub returns : goal.returns
returns c = layout-key
