use Rattle.std.proofs.Common.{length, refl, arith}
use Rattle.mon_ber.specs.declared.value.Value.TheVariants.{Octets}
use Rattle.mon_agent.proofs.Bound.{both_parts, summed}
use Rattle.mon_pdu.specs.declared.message.Binding.{Binding}
use Rattle.mon_agent.proofs.in_place.put_octets_binding.Goals as goal

pub put_octets-requires-clause-room : goal.put_octets-requires-clause-room
put_octets-requires-clause-room c =
    omega (arith, c.in_ok-put_head.ensures.room, summed (Octets c.args.octets.now) (length c.args.octets.now) _ refl refl)

pub returns : goal.returns
returns c =
    let b : Binding = record { name = c.args.name.now; value = Octets c.args.octets.now } in
    both_parts b (length c.args.octets.now) c.args.out.now.items c.put_head.new.out.items c.put_octets.new.out.items refl
    c.in_ok-put_head.ensures.put c.put_octets.ensures.items
