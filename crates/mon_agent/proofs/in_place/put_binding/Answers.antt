use Rattle.std.proofs.Common.{refl, arith}
use Rattle.mon_agent.proofs.Bound.{both_parts, summed}
use Rattle.mon_pdu.specs.declared.message.Binding.{Binding}
use Rattle.mon_agent.proofs.in_place.put_binding.Goals as goal

pub put_measured_value-requires-clause-room : goal.put_measured_value-requires-clause-room
put_measured_value-requires-clause-room c =
    omega (arith, c.in_ok-put_head.ensures.room, summed c.args.value.now c.contents_len-len.result _ c.contents_len-len.ensures refl)

pub returns : goal.returns
returns c =
    let b : Binding = record { name = c.args.name.now; value = c.args.value.now } in
    both_parts b c.contents_len-len.result c.args.out.now.items c.put_head.new.out.items c.put_measured_value.new.out.items c.contents_len-len.ensures
    c.in_ok-put_head.ensures.put c.put_measured_value.ensures.items
