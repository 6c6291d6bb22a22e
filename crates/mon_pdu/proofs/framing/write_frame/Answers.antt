use Rattle.std.proofs.Common.{◌≡◌, ◌≤◌, ◌+◌, ◌∙◌, [], length, ap, sym, inr, refl, vec_len, vec_capacity, rules, arith}
use Rattle.mon_ber.specs.Writing.{size_counted}
use Rattle.mon_pdu.specs.Around.{message_around}
use Rattle.mon_pdu.specs.Framed.{framed}
use Rattle.mon_pdu.proofs.Around.{around_counts, message_is, message_longer}
use Rattle.mon_pdu.proofs.framing.write_frame.Goals as goal

pub returns-then-size-limit-clause-err : goal.returns-then-size-limit-clause-err
returns-then-size-limit-clause-err c = λ bindings is.
    let m = framed c.args.frame.now [] in
    let octets = c.args.frame.now.list.now in
    let counted : c.min.result ≡ size_counted (length octets) = search rules in
    let size = around_counts m octets c.element_size-size.result c.lengths_of-lengths.result.message c.element_size-size.ensures (c.lengths_of-lengths.ensures.message octets counted) in
    inr (refl, omega (arith, size, c.if-size-limit.true, ap length (ap (message_around m) is ∙ sym (message_is m bindings))))

pub put_frame-requires-clause-fits : goal.put_frame-requires-clause-fits
put_frame-requires-clause-fits c =
    let m = framed c.args.frame.now [] in
    let octets = c.args.frame.now.list.now in
    let counted : c.min.result ≡ size_counted (length octets) = search rules in
    let size = around_counts m octets c.element_size-size.result c.lengths_of-lengths.result.message c.element_size-size.ensures (c.lengths_of-lengths.ensures.message octets counted) in
    omega (arith, size, c.if-size-limit.false, c.ranges.limit.fits, message_longer m octets)

pub put_frame-requires-clause-body : goal.put_frame-requires-clause-body
put_frame-requires-clause-body c =
    let counted : c.min.result ≡ size_counted (length c.args.frame.now.list.now) = search rules in
    c.lengths_of-lengths.ensures.body c.args.frame.now.list.now counted

pub put_frame-requires-clause-room : goal.put_frame-requires-clause-room
put_frame-requires-clause-room c =
    let m = framed c.args.frame.now [] in
    let octets = c.args.frame.now.list.now in
    let counted : c.min.result ≡ size_counted (length octets) = search rules in
    let size = around_counts m octets c.element_size-size.result c.lengths_of-lengths.result.message c.element_size-size.ensures (c.lengths_of-lengths.ensures.message octets counted) in
    let room : vec_len c.reserve.new.self + c.element_size-size.result ≤ vec_capacity c.reserve.new.self = search rules in
    omega (arith, size, c.if-size-limit.false, c.ranges.limit.fits, room)

pub returns-clause-ok : goal.returns-clause-ok
returns-clause-ok c = λ bindings is.
    let m = framed c.args.frame.now [] in
    let put : c.put_frame.new.out.items ≡ message_around m c.args.frame.now.list.now = search rules in
    put ∙ ap (message_around m) is ∙ sym (message_is m bindings)

pub returns-clause-within : goal.returns-clause-within
returns-clause-within c =
    let m = framed c.args.frame.now [] in
    let octets = c.args.frame.now.list.now in
    let counted : c.min.result ≡ size_counted (length octets) = search rules in
    let size = around_counts m octets c.element_size-size.result c.lengths_of-lengths.result.message c.element_size-size.ensures (c.lengths_of-lengths.ensures.message octets counted) in
    let put : c.put_frame.new.out.items ≡ message_around m octets = search rules in
    omega (arith, size, c.if-size-limit.false, c.ranges.limit.fits, ap length put)
