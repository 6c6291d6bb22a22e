use Rattle.mon_pdu.specs.Writing.{list_contents}
use Rattle.mon_pdu.proofs.Around.{size_counts}
use Rattle.mon_pdu.proofs.writing.size_with.Goals as goal

pub returns : goal.returns
returns c = λ bindings is.
    size_counts c.args.message.now bindings c.element_size.result c.lengths_around.result.message c.element_size.ensures (c.lengths_around.ensures.message (list_contents bindings) is)
