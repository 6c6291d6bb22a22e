use Rattle.std.proofs.Common.{◌∙◌, ap, sym, length}
use Rattle.mon_ber.specs.Writing.{size_counted}
use Rattle.mon_pdu.specs.Grammar.{bindings_of}
use Rattle.mon_pdu.specs.Writing.{list_contents}
use Rattle.mon_pdu.proofs.Around.{own_contents_are, own_inside_is}
use Rattle.mon_pdu.proofs.writing.lengths_by.Goals as goal

pub returns-clause-body : goal.returns-clause-body
returns-clause-body c =
    let body = c.args.message.now.body in
    c.lengths_around.ensures.body (list_contents (bindings_of body)) c.requires ∙ ap (λ t. size_counted (length t)) (sym (own_inside_is body))

pub returns-clause-message : goal.returns-clause-message
returns-clause-message c =
    let m = c.args.message.now in
    c.lengths_around.ensures.message (list_contents (bindings_of m.body)) c.requires ∙ ap (λ t. size_counted (length t)) (sym (own_contents_are m))
