use Rattle.std.proofs.Common.{ap, length, arith}
use Rattle.mon_pdu.proofs.Sizes.{bounded}
use Rattle.mon_pdu.proofs.writing.size_bound.Goals as goal

pub returns : goal.returns
returns c = λ bindings is. omega (arith, bounded c.args.message.now bindings c.args.list is, ap length c.as_slice.ensures)
