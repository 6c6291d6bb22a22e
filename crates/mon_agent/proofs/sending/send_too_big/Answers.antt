use Rattle.std.proofs.Common.{rules, subst, ◌∙◌}
use Rattle.mon_agent.specs.Reply.{IsWithinLimit, IsAboveLimit}
use Rattle.mon_agent.proofs.Sent.{sent_too_big}
use Rattle.mon_agent.proofs.sending.send_too_big.Goals as goal

pub returns-in-Some : goal.returns-in-Some
returns-in-Some c = λ other same above.
    let response = c.too_big-response.result in
    let fits : IsWithinLimit c.args.max_message_size response = search rules in
    sent_too_big c.args.max_message_size response other c.write.result (c.too_big-response.ensures ∙ same) above fits c.write.ensures

pub returns : goal.returns
returns c = λ other same above.
    let response = c.too_big-response.result in
    let over : IsAboveLimit c.args.max_message_size response = search rules in
    (above, subst (IsAboveLimit c.args.max_message_size) (c.too_big-response.ensures ∙ same) over)
