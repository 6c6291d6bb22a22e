use Rattle.std.proofs.Common.{rules}
use Rattle.mon_agent.specs.Reply.{IsWithinLimit}
use Rattle.mon_agent.proofs.Sent.{sent_within}
use Rattle.mon_agent.proofs.sending.send_measured.Goals as goal

pub returns-in-Some : goal.returns-in-Some
returns-in-Some c =
    let fits : IsWithinLimit c.args.max_message_size c.args.reply = search rules in
    sent_within c.args.max_message_size c.args.reply c.write_listed.result fits c.write_listed.ensures
