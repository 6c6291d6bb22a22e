use Rattle.std.proofs.Common.{◌≡◌, ◌∙◌, ℤ, pos, ap, to_z, of_z, w32, rules}
use Rattle.std.specs.Global.{Vec}
use Rattle.mon_pdu.specs.declared.message.Message.{Message}
use Rattle.mon_pdu.specs.Writing.{written_message}
use Rattle.mon_agent.specs.Reply.{response_body}
use Rattle.mon_agent.proofs.Filling.{on_ok}
use Rattle.mon_agent.proofs.in_place.take_response.Goals as goal

pub returns-clause-written : goal.returns-clause-written
returns-clause-written c = λ bindings is.
    let id_is : to_z w32 (of_z w32 c.args.request_id) ≡ c.args.request_id = search rules in
    let made : ℤ → Message = λ id. record { community = c.args.community.now; body = response_body id (pos 0) (pos 0) bindings } in
    ap (λ (v : Vec _). v.items) c.replace.ensures.value
    ∙ (on_ok c.write_frame.result _ c.in_ok-ok.ensures.value (c.write_frame.ensures.ok bindings (c.response_frame-frame.ensures.list ∙ (c.as_slice.ensures.value ∙ is)))
    ∙ ap written_message (c.response_frame-frame.ensures.framed bindings ∙ ap made id_is))
