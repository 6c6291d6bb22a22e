use Rattle.std.proofs.Common.{arith}
use Rattle.mon_poller.proofs.Readings.{octets_by_place, reading}
use Rattle.mon_poller.proofs.awaiting.read.Goals as goal

pub returns-in_err-read_message-clause-read : goal.returns-in_err-read_message-clause-read
returns-in_err-read_message-clause-read c = reading c.again.ensures c.takes.ensures c.args.octets.now (octets_by_place c.args.octets.now (λ i. omega (arith, c.type_inv.octets i)))

pub returns-clause-read : goal.returns-clause-read
returns-clause-read c = reading c.again.ensures c.takes.ensures c.args.octets.now (octets_by_place c.args.octets.now (λ i. omega (arith, c.type_inv.octets i)))
