use Rattle.std.proofs.Common.{◌≡◌, ◌≤◌, ◌+◌, ◌∷◌, ◌++◌, ◌∙◌, ap, length, vec_len, vec_capacity, rules, arith}
use Rattle.mon_ber.specs.declared.value.Value.TheVariants.{Name}
use Rattle.mon_ber.specs.Writing.{length_octets, name_octets, size_for, written}
use Rattle.mon_agent.proofs.Bound.{header_length, summed}
use Rattle.mon_agent.proofs.in_place.put_head.Goals as goal

pub put_header-requires-clause-room : goal.put_header-requires-clause-room
put_header-requires-clause-room c =
    let n = c.element_len.result + c.element_len-2.result in
    let size : c.element_len-size.result ≡ size_for n = c.element_len-size.ensures.value in
    let room : vec_len c.reserve.new.self + c.element_len-size.result ≤ vec_capacity c.reserve.new.self = search rules in
    omega (arith, header_length n, size, room)

pub put_measured_identifier-requires-clause-room : goal.put_measured_identifier-requires-clause-room
put_measured_identifier-requires-clause-room c =
    let n = c.element_len.result + c.element_len-2.result in
    let size : c.element_len-size.result ≡ size_for n = c.element_len-size.ensures.value in
    let room : vec_len c.reserve.new.self + c.element_len-size.result ≤ vec_capacity c.reserve.new.self = search rules in
    let own : c.element_len.result ≡ length (written (Name c.args.name.now)) = summed (Name c.args.name.now) c.identifier_len-name_len.result c.element_len.result c.identifier_len-name_len.ensures.value c.element_len.ensures.value in
    omega (arith, header_length n, size, room, own, c.put_header.ensures.len, c.put_header.ensures.capacity)

pub returns-clause-put : goal.returns-clause-put
returns-clause-put c =
    let name = length (name_octets c.args.name.now) in
    let sum : c.element_len.result + c.element_len-2.result ≡ size_for name + size_for c.args.value_len =
    (λ i. (c.element_len.ensures.value ∙ ap size_for c.identifier_len-name_len.ensures.value) i + c.element_len-2.ensures.value i) in
    c.put_measured_identifier.ensures.items
    ∙ ap (λ text. text ++ written (Name c.args.name.now))
    (c.put_header.ensures.items ∙ (λ i. c.reserve.ensures.items i ++ (0x30 ∷ length_octets (sum i))))

pub returns-clause-room : goal.returns-clause-room
returns-clause-room c =
    let n = c.element_len.result + c.element_len-2.result in
    let size : c.element_len-size.result ≡ size_for n = c.element_len-size.ensures.value in
    let room : vec_len c.reserve.new.self + c.element_len-size.result ≤ vec_capacity c.reserve.new.self = search rules in
    let own : c.element_len.result ≡ length (written (Name c.args.name.now)) = summed (Name c.args.name.now) c.identifier_len-name_len.result c.element_len.result c.identifier_len-name_len.ensures.value c.element_len.ensures.value in
    omega (
      arith,
      header_length n,
      size,
      room,
      own,
      c.element_len-2.ensures.value,
      c.put_header.ensures.len,
      c.put_header.ensures.capacity,
      c.put_measured_identifier.ensures.len,
      c.put_measured_identifier.ensures.capacity,
    )
