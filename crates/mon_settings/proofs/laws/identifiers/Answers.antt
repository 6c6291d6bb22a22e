use Rattle.mon_settings.proofs.Oids.{oid_texts}
use Rattle.mon_settings.proofs.laws.identifiers.Goals as goal

pub returns : goal.returns
returns c = oid_texts
