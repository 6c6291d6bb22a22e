use Rattle.std.proofs.Common.{[], refl, arith}
use Rattle.mon_pdu.specs.Framed.{framed}
use Rattle.mon_pdu.specs.Writing.{list_contents}
use Rattle.mon_pdu.proofs.Sizes.{bounded}
use Rattle.mon_pdu.proofs.Around.{size_counts, within_counted}
use Rattle.mon_pdu.proofs.framing.frame_fits.Goals as goal

pub returns-then-frame-list : goal.returns-then-frame-list
returns-then-frame-list c = λ bindings is. (λ yes. omega (arith, bounded (framed c.args.frame.now []) bindings c.args.list is, c.if-frame-list.true, c.ranges.limit.fits), λ fits. refl)

pub returns : goal.returns
returns c = λ bindings is.
    let size = size_counts (framed c.args.frame.now []) bindings c.element_size.result c.lengths_of.result.message c.element_size.ensures (c.lengths_of.ensures.message (list_contents bindings) is) in
    within_counted _ c.args.limit c.element_size.result c.ranges.limit.fits size
