use Rattle.mon_client.proofs.Meanings.{one_value}
use Rattle.mon_client.proofs.laws.one_value.Goals as goal

pub returns : goal.returns
returns c = one_value c.one_reading.ensures
