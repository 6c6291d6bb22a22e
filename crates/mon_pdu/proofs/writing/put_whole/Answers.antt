use Rattle.std.proofs.Common.{◌≡◌, ◌++◌, ◌∙◌, ap, sym, length, arith}
use Rattle.mon_ber.specs.Writing.{size_counted}
use Rattle.mon_pdu.specs.Around.{contents_of_body, contents_of_message, message_around}
use Rattle.mon_pdu.specs.Writing.{body_contents, list_contents, message_contents, written_message}
use Rattle.mon_pdu.proofs.Around.{own_inside_is, own_contents_are, own_message_is}
use Rattle.mon_pdu.proofs.writing.put_whole.Goals as goal

pub put_message-requires : goal.put_message-requires
put_message-requires c =
    let m = c.args.message.now in
    let text = list_contents c.bindings.result.now in
    let inside : body_contents m.body ≡ contents_of_body m.body text = own_inside_is m.body ∙ ap (λ bs. contents_of_body m.body (list_contents bs)) (sym c.bindings.ensures) in
    let contents : message_contents m ≡ contents_of_message m text = own_contents_are m ∙ ap (λ bs. contents_of_message m (list_contents bs)) (sym c.bindings.ensures) in
    let whole : written_message m ≡ message_around m text = own_message_is m ∙ ap (λ bs. message_around m (list_contents bs)) (sym c.bindings.ensures) in
    record {
      fits = omega (arith, ap length contents, c.requires.fits);
      message = c.requires.message ∙ ap (λ t. size_counted (length t)) contents;
      body = c.requires.body ∙ ap (λ t. size_counted (length t)) inside;
      list = c.requires.list ∙ ap (λ bs. size_counted (length (list_contents bs))) (sym c.bindings.ensures);
      room = omega (arith, ap length whole, c.requires.room);
    }

pub returns-clause-items : goal.returns-clause-items
returns-clause-items c =
    let m = c.args.message.now in
    let whole : message_around m (list_contents c.bindings.result.now) ≡ written_message m = ap (λ bs. message_around m (list_contents bs)) c.bindings.ensures ∙ sym (own_message_is m) in
    c.put_message.ensures.items ∙ ap (λ t. c.args.out.now.items ++ t) whole

pub returns-clause-len : goal.returns-clause-len
returns-clause-len c =
    let m = c.args.message.now in
    let whole : message_around m (list_contents c.bindings.result.now) ≡ written_message m = ap (λ bs. message_around m (list_contents bs)) c.bindings.ensures ∙ sym (own_message_is m) in
    omega (arith, c.put_message.ensures.len, ap length whole)
