use Rattle.std.proofs.Common.{◌≡◌, ◌+◌, ◌∷◌, ◌++◌, ◌∙◌, ap, length, arith}
use Rattle.mon_ber.specs.declared.value.Value.TheVariants.{Name}
use Rattle.mon_ber.specs.Writing.{length_octets, written}
use Rattle.mon_pdu.specs.Writing.{binding_contents}
use Rattle.mon_pdu.proofs.Lengths.{binding_parts, behind_header, binding_text, sum_is}
use Rattle.mon_pdu.proofs.writing.put_binding.Goals as goal

pub put_header-requires-clause-room : goal.put_header-requires-clause-room
put_header-requires-clause-room c =
    let sum : c.element_len.result + c.element_len-2.result ≡ length (binding_contents c.args.binding.now) =
    sum_is c.args.binding.now _ _ _ _ c.identifier_len-name.ensures.value c.contents_len-value.ensures c.element_len.ensures.value c.element_len-2.ensures.value in
    let parts = binding_parts c.args.binding.now _ sum in
    omega (arith, parts, c.requires.room)

pub put_measured_identifier-requires-clause-room : goal.put_measured_identifier-requires-clause-room
put_measured_identifier-requires-clause-room c =
    let sum : c.element_len.result + c.element_len-2.result ≡ length (binding_contents c.args.binding.now) =
    sum_is c.args.binding.now _ _ _ _ c.identifier_len-name.ensures.value c.contents_len-value.ensures c.element_len.ensures.value c.element_len-2.ensures.value in
    let parts = binding_parts c.args.binding.now _ sum in
    omega (arith, parts, c.requires.room, c.put_header.ensures.len, c.put_header.ensures.capacity)

pub put_measured_value-requires-clause-room : goal.put_measured_value-requires-clause-room
put_measured_value-requires-clause-room c =
    let sum : c.element_len.result + c.element_len-2.result ≡ length (binding_contents c.args.binding.now) =
    sum_is c.args.binding.now _ _ _ _ c.identifier_len-name.ensures.value c.contents_len-value.ensures c.element_len.ensures.value c.element_len-2.ensures.value in
    let parts = binding_parts c.args.binding.now _ sum in
    omega (arith, parts, c.requires.room, c.put_header.ensures.len, c.put_header.ensures.capacity, c.put_measured_identifier.ensures.len, c.put_measured_identifier.ensures.capacity)

pub returns-clause-items : goal.returns-clause-items
returns-clause-items c =
    let b = c.args.binding.now in
    let sum : c.element_len.result + c.element_len-2.result ≡ length (binding_contents b) =
    sum_is b _ _ _ _ c.identifier_len-name.ensures.value c.contents_len-value.ensures c.element_len.ensures.value c.element_len-2.ensures.value in
    let header = 0x30 ∷ length_octets (c.element_len.result + c.element_len-2.result) in
    c.put_measured_value.ensures.items
    ∙ ap (λ text. text ++ written b.value) (c.put_measured_identifier.ensures.items ∙ ap (λ text. text ++ written (Name b.name)) c.put_header.ensures.items)
    ∙ behind_header c.args.out.now.items header (written (Name b.name)) (written b.value)
    ∙ ap (λ text. c.args.out.now.items ++ text) (binding_text b _ sum)

pub returns-clause-len : goal.returns-clause-len
returns-clause-len c =
    let sum : c.element_len.result + c.element_len-2.result ≡ length (binding_contents c.args.binding.now) =
    sum_is c.args.binding.now _ _ _ _ c.identifier_len-name.ensures.value c.contents_len-value.ensures c.element_len.ensures.value c.element_len-2.ensures.value in
    let parts = binding_parts c.args.binding.now _ sum in
    omega (arith, parts, c.put_header.ensures.len, c.put_measured_identifier.ensures.len, c.put_measured_value.ensures.len)
