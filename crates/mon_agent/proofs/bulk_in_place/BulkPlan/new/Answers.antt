use Rattle.std.proofs.Common.{◌≡◌, ◌∙◌, ℤ, pos, ap, to_z, of_z, w32, rules}
use Rattle.mon_pdu.specs.declared.message.Message.{Message}
use Rattle.mon_agent.specs.Reply.{response_body}
use Rattle.mon_agent.proofs.bulk_in_place.BulkPlan.new.Goals as goal

pub returns-clause-head : goal.returns-clause-head
returns-clause-head c = λ asked bindings.
    let id_is : to_z w32 (of_z w32 c.args.frame.now.request_id) ≡ c.args.frame.now.request_id = search rules in
    let made : ℤ → Message = λ id. record { community = c.args.frame.now.community.now; body = response_body id (pos 0) (pos 0) bindings } in
    c.response_frame.ensures.framed bindings ∙ ap made id_is
