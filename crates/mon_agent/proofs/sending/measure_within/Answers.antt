use Rattle.std.proofs.Common.{◌<◌, ◌^◌, rules, arith}
use Rattle.mon_agent.specs.Reply.{IsWithinLimit, count_of}
use Rattle.mon_agent.proofs.Sent.{longer}
use Rattle.mon_agent.proofs.sending.measure_within.Goals as goal

pub returns-clause-length : goal.returns-clause-length
returns-clause-length c =
    let fits : IsWithinLimit c.args.max_message_size c.args.message.now = search rules in
    let small : count_of c.args.max_message_size < 2 ^ 31 = search rules in
    omega (arith, longer c.args.message.now, fits, small)
