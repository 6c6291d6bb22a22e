use Rattle.mon_http_client.proofs.Reading.{settled, same}
use Rattle.mon_http_client.proofs.laws.any_cut.Goals as goal

pub returns-clause-settled : goal.returns-clause-settled
returns-clause-settled c = settled

pub returns-clause-same : goal.returns-clause-same
returns-clause-same c = same
