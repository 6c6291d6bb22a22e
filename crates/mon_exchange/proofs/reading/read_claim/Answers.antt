use Rattle.std.proofs.Common.{arith}
use Rattle.mon_exchange.proofs.Claims.{is_found, is_only, if_failed}
use Rattle.mon_exchange.proofs.Faults.{faults_of_reading}
use Rattle.mon_exchange.proofs.reading.read_claim.Goals as goal

pub returns-clause-found : goal.returns-clause-found
returns-clause-found c = is_found c.args.octets.now c.claim_at.result (λ i. omega (arith, c.type_inv.octets i)) c.claim_at.ensures

pub returns-clause-only : goal.returns-clause-only
returns-clause-only c = λ claim is. is_only c.samples.ensures.again c.args.octets.now c.claim_at.result claim c.claim_at.ensures is

pub returns-clause-read : goal.returns-clause-read
returns-clause-read c = faults_of_reading c.args.octets.now c.claim_at.result (if_failed c.args.octets.now c.claim_at.result c.claim_at.ensures)
