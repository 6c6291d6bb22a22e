use Rattle.std.proofs.Common.{◌≡◌, ◌<◌, ◌^◌, ◌∙◌, ap, sym, length, inr, refl, arith, rules}
use Rattle.mon_ber.specs.Writing.{size_counted, size_for}
use Rattle.mon_pdu.specs.Around.{contents_of_message, message_around}
use Rattle.mon_pdu.specs.Sizes.{with_bindings}
use Rattle.mon_pdu.specs.Writing.{message_contents}
use Rattle.mon_pdu.proofs.Around.{contents_are, message_is, message_length}
use Rattle.mon_pdu.proofs.writing.write_with.Goals as goal

pub returns-then-lengths-ge-LIMIT-clause-err : goal.returns-then-lengths-ge-LIMIT-clause-err
returns-then-lengths-ge-LIMIT-clause-err c = λ bindings is.
    let m = c.args.message.now in
    let counted : c.min.result ≡ size_counted (length c.args.list.now) = search rules in
    let message : c.lengths_around-lengths.result.message ≡ size_counted (length (contents_of_message m c.args.list.now)) = c.lengths_around-lengths.ensures.message c.args.list.now counted in
    let same : length (message_contents (with_bindings m bindings)) ≡ length (contents_of_message m c.args.list.now) =
    ap length (contents_are m bindings) ∙ ap (λ list. length (contents_of_message m list)) (sym is) in
    inr (refl, omega (arith, same, message, c.if-lengths-ge-LIMIT.true))

pub returns-clause-ok : goal.returns-clause-ok
returns-clause-ok c = λ bindings is.
    let m = c.args.message.now in
    let counted : c.min.result ≡ size_counted (length c.args.list.now) = search rules in
    let message : c.lengths_around-lengths.result.message ≡ size_counted (length (contents_of_message m c.args.list.now)) = c.lengths_around-lengths.ensures.message c.args.list.now counted in
    let same : length (message_contents (with_bindings m bindings)) ≡ length (contents_of_message m c.args.list.now) =
    ap length (contents_are m bindings) ∙ ap (λ list. length (contents_of_message m list)) (sym is) in
    let fits : length (message_contents (with_bindings m bindings)) < 2 ^ 32 = omega (arith, same, message, c.if-lengths-ge-LIMIT.false) in
    let put : c.put_message.new.out.items ≡ message_around m c.args.list.now = search rules in
    (fits, put ∙ ap (message_around m) is ∙ sym (message_is m bindings))

pub put_message-requires-clause-room : goal.put_message-requires-clause-room
put_message-requires-clause-room c =
    let m = c.args.message.now in
    let octets = c.args.list.now in
    let counted : c.min.result ≡ size_counted (length octets) = search rules in
    let message : c.lengths_around-lengths.result.message ≡ size_counted (length (contents_of_message m octets)) = c.lengths_around-lengths.ensures.message octets counted in
    let whole : c.lengths_around-lengths.result.message ≡ length (contents_of_message m octets) = omega (arith, message, c.if-lengths-ge-LIMIT.false) in
    let size : c.element_len.result ≡ length (message_around m octets) = c.element_len.ensures.value ∙ ap size_for whole ∙ sym (message_length m octets) in
    omega (arith, size, c.in_ok-out.ensures.len, c.in_ok-out.ensures.capacity)
