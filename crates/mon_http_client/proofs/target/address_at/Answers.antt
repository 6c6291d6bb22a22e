use Rattle.mon_http_client.proofs.Targets.{no_address}
use Rattle.mon_http_client.proofs.target.address_at.Goals as goal

pub returns-in-Err : goal.returns-in-Err
returns-in-Err c = no_address c.addresses.ensures c.args.octets.now c.in-Err.ensures.cases.0
