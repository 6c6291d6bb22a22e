use Rattle.std.proofs.Common.{rules}
use Rattle.mon_pdu.proofs.Lengths.{one_more, valid_more}
use Rattle.mon_pdu.proofs.writing.list_len.Goals as goal

pub loop-binding-preserved : goal.loop-binding-preserved
loop-binding-preserved c = (
  one_more c.args.bindings.now c.loop-binding.binding-index c.loop-binding.len c.binding-item.result c.binding_len.result c.element_size.result c.min-len.result
      c.loop-binding-test.true c.binding-item.is c.loop-binding.invariant.0 c.binding_len.ensures.len c.element_size.ensures (search rules),
  valid_more c.args.bindings.now c.loop-binding.binding-index c.binding-item.result c.loop-binding-test.true c.binding-item.is c.loop-binding.invariant.1 c.binding_len.ensures.valid,
)
