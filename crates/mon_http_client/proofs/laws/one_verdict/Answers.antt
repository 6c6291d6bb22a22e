use Rattle.mon_http_client.proofs.Reading.{one_verdict}
use Rattle.mon_http_client.proofs.laws.one_verdict.Goals as goal

pub returns : goal.returns
returns c = one_verdict
