use Rattle.std.proofs.Common.{◌≡◌, ◌+◌, ◌∙◌, ap, length, pos, arith, rules}
use Rattle.mon_ber.specs.declared.value.Value.TheVariants.{Integer}
use Rattle.mon_ber.specs.Writing.{written, size_for, size_counted}
use Rattle.mon_pdu.specs.Around.{contents_of_body}
use Rattle.mon_pdu.proofs.Around.{body_total, message_total}
use Rattle.mon_pdu.proofs.Lengths.{counted_twice}
use Rattle.mon_pdu.proofs.writing.lengths_from.Goals as goal

pub returns-clause-body : goal.returns-clause-body
returns-clause-body c = λ m octets numbers is.
    let own : c.min-body.result ≡ size_counted (c.args.numbers + c.element_size.result) = search rules in
    let inner : c.element_size.result ≡ size_counted (size_for (length octets)) =
    c.element_size.ensures ∙ ap (λ n. size_counted (size_for n)) is ∙ counted_twice (length octets) in
    omega (arith, own, body_total m.body octets, inner, numbers)

pub returns-clause-message : goal.returns-clause-message
returns-clause-message c = λ m octets long numbers is.
    let own : c.min-body.result ≡ size_counted (c.args.numbers + c.element_size.result) = search rules in
    let inner : c.element_size.result ≡ size_counted (size_for (length octets)) =
    c.element_size.ensures ∙ ap (λ n. size_counted (size_for n)) is ∙ counted_twice (length octets) in
    let body : c.min-body.result ≡ size_counted (length (contents_of_body m.body octets)) = omega (arith, own, body_total m.body octets, inner, numbers) in
    let community : c.element_size-2.result ≡ size_counted (size_for (length m.community)) = c.element_size-2.ensures ∙ ap (λ n. size_counted (size_for n)) long in
    let outer : c.element_size-3.result ≡ size_counted (size_for (length (contents_of_body m.body octets))) =
    c.element_size-3.ensures ∙ ap (λ n. size_counted (size_for n)) body ∙ counted_twice (length (contents_of_body m.body octets)) in
    let contents : c.min-contents.result ≡ size_counted (length (written (Integer (pos 1))) + c.element_size-2.result + c.element_size-3.result) = search rules in
    omega (arith, contents, community, outer, message_total m octets)
