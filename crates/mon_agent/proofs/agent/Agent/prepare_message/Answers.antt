use Rattle.std.proofs.Common.{sym, ◌∙◌}
use Rattle.mon_mib.specs.Known.{known_of}
use Rattle.mon_agent.proofs.Sent.{unread}
use Rattle.mon_agent.proofs.agent.Agent.prepare_message.Goals as goal

pub returns-in-Some-clause-ready : goal.returns-in-Some-clause-ready
returns-in-Some-clause-ready g c =
    let D = g.D.Device in
    let device = c.args.self.now.mib.device in
    let known = known_of c.args.self.now.mib.settings c.args.self.now.mib.counters (D.held device) c.args.moment in
    unread D.held D.failed D.refuses c.args.self.now.policy known device c.args.datagram.now c.read_message.result c.in-Err.fault c.in-Some.cause c.in-Err.is
    (sym c.cause_of.ensures ∙ c.in-Some.is) c.read_message.ensures.only c.read_message.ensures.version
